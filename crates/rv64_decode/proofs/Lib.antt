pub mod SpellingLemmas
pub mod TableLemmas
pub mod Laws
