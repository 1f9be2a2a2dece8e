pub mod NumberedLemmas
pub mod UndoingLemmas
