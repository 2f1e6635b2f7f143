-- Blocks of 16 bytes 00 at the front, as a `take_while` over them gives them. Assumes nothing.
use Prim.Native.Nat.{ℕ, suc, ◌+◌, ◌*◌}
use mathlib.Core.Path.{◌≡◌, sym, ap, subst, ◌∙◌}
use mathlib.Core.Bool.{Bool, true, false, true≢false}
use mathlib.Core.List.{List, [], ◌∷◌}
use native.Mathlib.Omega.{arith}
use lib.ListN.{length, drop}
use denote.Ref.{Bor}
use denote.Param.Members.{Mut}
use Rattle.std.specs.declared.iter.TakeWhile.{TakeWhile}
use Rattle.std.specs.declared.slice.ChunksExact.{ChunksExact}
use Rattle.std.specs.Prelude.{Option, None, Some}
use Rattle.std.specs.Bool.{MatchBool}
use Rattle.std.specs.Fn.{CalledAt}
use Rattle.std.specs.Iterator.{Yields}
use Rattle.std.specs.Iterator.Adapters.{take_while_source, take_while_callee, take_while_done, take_while_steps}
use Rattle.std.specs.Option.{MatchOption, is_some}
use Rattle.std.specs.Slice.Iter.{chunks_exact_rest, chunks_exact_size, chunks_exact_steps}
use Rattle.frames.specs.Buffers.{Padding, zeros}
use Rattle.frames.proofs.PaddingLaws.{next-block}

abbrev Block : Type 0
Block = Bor (List ℕ)

module _ {F : Type 0} (g : Mut F (Bor Block × Unit {0}) Bool) (f : F)
    (asks : (x : Block) (b : Bool) (q : F) → CalledAt g f x b q → (q ≡ f) × (b ≡ zeros x.now)) where
  abbrev Blocks : Type 0
  Blocks = TakeWhile (ChunksExact ℕ) F

  abbrev Passed : Blocks → Block → Blocks → Option Block → Type 0
  Passed s x t o =
      MatchOption o ((Some x ≡ None) × (take_while_done t ≡ false))
      (λ y. (b : Bool) × CalledAt g (take_while_callee s) y b (take_while_callee t)
      × MatchBool b ((Some x ≡ Some y) × (take_while_done t ≡ false)) ((Some x ≡ None) × (take_while_done t ≡ true)))

  -- a block that came is one of the slice's, and all its bytes are 00
  record Came (s : Blocks) (x : Block) (t : Blocks) : Type 0 where
    step : chunks_exact_steps (take_while_source s) (Some x) (take_while_source t)
    zero : zeros x.now ≡ true
    asked : take_while_callee t ≡ f
    on : take_while_done t ≡ false

  came : (s t : Blocks) (x : Block) (o : Option Block) → take_while_callee s ≡ f → chunks_exact_steps (take_while_source s) o (take_while_source t) → Passed s x t o → Came s x t
  came s t x None a p c = absurd (true≢false (ap is_some c.0))
  came s t x (Some y) a p (false, c, w) = absurd (true≢false (ap is_some w.0))
  came s t x (Some y) a p (true, c, w) =
      let e : y ≡ x = ap (λ (o : Option Block). elim o [ None ↦ x | Some z ↦ z ]) (sym w.0) in
      let q = asks y true _ (subst (λ h. CalledAt g h y true (take_while_callee t)) a c) in
      record {
        step = subst (λ z. chunks_exact_steps (take_while_source s) (Some z) (take_while_source t)) e p;
        zero = subst (λ (z : Block). zeros z.now ≡ true) e (sym q.1);
        asked = q.0;
        on = w.1;
      }

  module _ (bs : List ℕ) where
    pub zero_blocks : (xs : List Block) (s t : Blocks) (at : ℕ) → Yields (take_while_steps chunks_exact_steps g) s xs t
        → take_while_callee s ≡ f → take_while_done s ≡ false → chunks_exact_size (take_while_source s) ≡ 16
        → chunks_exact_rest (take_while_source s) ≡ drop at bs → Padding at bs → Padding (at + 16 * length xs) bs
    zero_blocks [] s t at y a d z e p = let n : at + 16 * 0 ≡ at = omega arith in rw n p
    zero_blocks (x ∷ xs) s t at (j, turn, more) a d z e p =
        let opened = subst (λ b. MatchBool b ((Some x ≡ None) × (j ≡ s)) ((o : Option Block) × chunks_exact_steps (take_while_source s) o (take_while_source j) × Passed s x j o)) d turn in
        let c = came s j x opened.0 a opened.1 opened.2 in
        let n = next-block at bs _ _ x.now p e c.step.1.0 (c.step.1.1 ∙ z) c.zero in
        let k : at + 16 + 16 * length xs ≡ at + 16 * suc (length xs) = omega arith in
        rw k at (zero_blocks xs j t (at + 16) more c.asked c.on (c.step.0 ∙ z) n.1 n.0)
