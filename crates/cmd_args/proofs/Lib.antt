pub mod TableLaws
pub mod DrawLaws
pub mod KeyLaws
