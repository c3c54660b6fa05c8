pub mod Ranked
pub mod ScoreOrder
pub mod WholeScores
