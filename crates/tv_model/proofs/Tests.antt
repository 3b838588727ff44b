-- Names under which proofs of this crate and of those above it take tests by cases.
pub use Rattle.std.proofs.lemmas.Bool.{and_from as both_true, or_left, or_right, true≢false as true≠false}
