-- Bounds that the functions of this crate keep. What the system reads has no contract; that of the text is in `script`.
use Rattle.std.specs.Prelude.{ℕ, ◌≤◌, ◌+◌, length}
use Rattle.operands.specs.declared.Inputs.{Inputs}

-- the operands have so many bytes together at most
abbrev pub Within : ℕ → Inputs → Type 0
Within most r = length r.first.now + length r.second.now + length r.third.now ≤ most
