pub mod MatchingLemmas
pub mod SearchLemmas
pub mod PatternLemmas
pub mod LawLemmas
