-- Rows that are negated at random.
use Rattle.std.specs.Prelude.{if◌then◌else◌, ◌==◌, ℕ, ℤ, pos, negsuc}

-- -1 for the number 1, otherwise 1
abbrev pub drawn_sign : ℕ → ℤ
drawn_sign number = if number == 1 then negsuc 0 else pos 1
