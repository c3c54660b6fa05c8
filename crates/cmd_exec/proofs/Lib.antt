mod Worlds
mod Refusing
mod Within
mod Rows
mod Working
mod Refused
