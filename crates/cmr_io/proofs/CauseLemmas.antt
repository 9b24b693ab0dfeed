-- Counts of faults that increased.
use Rattle.std.proofs.Common.{◌≤◌, ◌⊎◌, inl, inr, ℕ, arith}
use Rattle.cmr_io.specs.Causes.{Rose}

pub rose_later : (first mid last : ℕ) → first ≤ mid → Rose mid last → Rose first last
rose_later first mid last later (inl more) = inl (omega arith)
rose_later first mid last later (inr full) = inr full

pub rose_until : (first mid last : ℕ) → mid ≤ last → Rose first mid → Rose first last
rose_until first mid last later (inl more) = inl (omega arith)
rose_until first mid last later (inr full) = inr (omega arith)
