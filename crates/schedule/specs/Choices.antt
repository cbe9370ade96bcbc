-- What a function that is passed in computes: the keeper's words. Assumes nothing.
pub use Rattle.keeper.specs.Choices.{Returns}
