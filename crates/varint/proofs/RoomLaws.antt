-- What `size` and `write` answer for a number below 2^62 that has room. Assumes nothing.
use Prim.Native.Nat.{ℕ, ◌^◌, ◌≤◌, ◌<◌}
use mathlib.Core.Path.{◌≡◌, sym, ◌∙◌}
use mathlib.Core.List.{List}
use lib.ListN.{length}
use borrow.Author.Tests.{lt-ltb, le-leb}
use Rattle.std.specs.Prelude.{Result, Ok}
use Rattle.wire.specs.Answer.{result}
use Rattle.wire.specs.Front.{Put}
use Rattle.wire.specs.declared.refusals.Refusal.{Refusal}
use Rattle.wire.proofs.AnswerLaws.{ok-of, same-ok}
use Rattle.varint.specs.Varint.{width, class, shortest, write_of, after_write, Sized, Written}
use Rattle.varint.proofs.RoundTrip.{length-shortest, size_small}

module _ (v : ℕ) (h : v < 2 ^ 62) where
  pub sized : (r : Result ℕ Refusal) → Sized v r → r ≡ Ok (width (class v))
  sized r s = ok-of r (s.is ∙ size_small v h)

  module _ (old : List ℕ) (l : width (class v) ≤ length old) where
    write-small : write_of v (length old) ≡ result (width (class v))
    unfolding write_of
    write-small = rw (lt-ltb v (2 ^ 62) h, le-leb (width (class v)) (length old) l)

    pub wrote : (r : Result ℕ Refusal) (new : List ℕ) → Written v old r new → r ≡ Ok (width (class v))
    wrote r new w = ok-of r (w.is ∙ write-small)

    pub put : (r : Result ℕ Refusal) (n : ℕ) (new : List ℕ) → Written v old r new → r ≡ Ok n → Put (shortest v) n old new
    unfolding after_write
    put r n new w e =
        record { count = same-ok (sym e ∙ wrote r new w) ∙ sym (length-shortest v); output = w.output ∙ rw write-small }
