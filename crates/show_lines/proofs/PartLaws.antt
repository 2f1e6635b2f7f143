-- The choice by part, and that what is due always stands in a part that goes on. Assumes nothing.
use Prim.Native.Nat.{ℕ, ◌≤◌, ◌<◌}
use mathlib.Core.Path.{◌≡◌, refl, ◌∙◌}
use mathlib.Core.Bool.{Bool, true, false, cond}
use native.Mathlib.Omega.{arith}
use native.Mathlib.Nat.{le_refl}
use borrow.Author.Tests.{ne_eqb, eqb-true, eqb-false, lt-ltb, ltb-true}
use lib.Dec.{eqb, ltb}
use Rattle.show_lines.specs.Grammar.{grammar, column}
use Rattle.show_lines.specs.Lines.{part_of, by_part, part_end, in_hello, after_body, after_list, settled, settle, opened, Ready}
use Rattle.show_lines.specs.Lines.{Cursor}

-- what holds of both choices holds of the one that a test makes
pub cond-elim : {A : Type 0} (P : A → Type 0) (t : Bool) (x y : A) → (t ≡ true → P x) → (t ≡ false → P y) → P (cond t x y)
cond-elim P true x y f g = f refl
cond-elim P false x y f g = g refl

-- no part of its own: the hello
abbrev pub NoPart : ℕ → Type 0
NoPart p = (p ≡ 1 → ⊥) × (p ≡ 2 → ⊥) × (p ≡ 3 → ⊥) × (p ≡ 4 → ⊥)

module _ {A : Type 0} (p : ℕ) (suites block body list hello : A) where
  pub by_part_lem :
      (P : A → Type 0) → (p ≡ 1 → P suites) → (p ≡ 2 → P block) → (p ≡ 3 → P body) → (p ≡ 4 → P list) → (NoPart p → P hello)
      → P (by_part p suites block body list hello)
  by_part_lem P f g h k l =
      cond-elim P (eqb p 1) suites _ (λ t. f (eqb-true p 1 t)) (λ t1.
      cond-elim P (eqb p 2) block _ (λ t. g (eqb-true p 2 t)) (λ t2.
      cond-elim P (eqb p 3) body _ (λ t. h (eqb-true p 3 t)) (λ t3.
      cond-elim P (eqb p 4) list hello (λ t. k (eqb-true p 4 t)) (λ t4.
      l (eqb-false p 1 t1, eqb-false p 2 t2, eqb-false p 3 t3, eqb-false p 4 t4)))))

  pub in-suites : p ≡ 1 → by_part p suites block body list hello ≡ suites
  in-suites e = rw e

  pub in_block : p ≡ 2 → by_part p suites block body list hello ≡ block
  in_block e = rw e

  pub in_body : p ≡ 3 → by_part p suites block body list hello ≡ body
  in_body e = rw e

  pub in_list : p ≡ 4 → by_part p suites block body list hello ≡ list
  in_list e = rw e

  pub in-none : NoPart p → by_part p suites block body list hello ≡ hello
  in-none (a, b, c, d) = rw (ne_eqb p 1 a, ne_eqb p 2 b, ne_eqb p 3 c, ne_eqb p 4 d)

-- ---- The end of a part lies in the hello

pub part-within : (n : ℕ) (c : Cursor) → Ready n c → part_end n c ≤ n
unfolding part_end
part-within n c r =
    by_part_lem (part_of c.what) c.list c.block c.body c.list n (λ e. e ≤ n) (λ t. r.list) (λ t. r.block) (λ t. r.body)
    (λ t. r.list) (λ t. le_refl n)

none-of-0 : NoPart 0
none-of-0 = (λ e. omega (arith, e), λ e. omega (arith, e), λ e. omega (arith, e), λ e. omega (arith, e))

-- a number that is none of the parts, as the code tests it
pub no_part : (x p : ℕ) → x ≡ p → (x ≡ 1 → ⊥) → (x ≡ 2 → ⊥) → (x ≡ 3 → ⊥) → (x ≡ 4 → ⊥) → NoPart p
no_part x p e a b c d = (λ k. a (e ∙ k), λ k. b (e ∙ k), λ k. c (e ∙ k), λ k. d (e ∙ k))

-- the hello's own part
pub hello_part : {p : ℕ} → p ≡ 0 → NoPart p
hello_part e = rw e none-of-0

-- ---- What is due stands in a part that goes on

module _ (n at list body block : ℕ) where
  abbrev here : ℕ → Cursor
  here what = record { at = at; what = what; list = list; body = body; block = block }

  abbrev Goes : ℕ → Type 0
  Goes what = at < n → at < part_end n (here what)

  goes-in-hello : (what : ℕ) → NoPart (part_of what) → Goes (in_hello n at what)
  unfolding part_end
  goes-in-hello what p h = rw (lt-ltb at n h) (rw (in-none (part_of what) list block body list n p) h)

  goes-after-body : Goes (after_body n at block)
  unfolding part_end column grammar
  goes-after-body =
      cond-elim Goes (ltb at block) 9 (in_hello n at 25) (λ t h. ltb-true at block t) (λ t. goes-in-hello 25 none-of-0)

  goes-after-list : Goes (after_list n at body block)
  unfolding part_end column grammar
  goes-after-list = cond-elim Goes (ltb at body) 24 (after_body n at block) (λ t h. ltb-true at body t) (λ t. goes-after-body)

  goes-settled : (what : ℕ) → Goes (settled n (here what))
  unfolding part_end column grammar settled
  goes-settled what =
      by_part_lem (part_of what)
      (cond (ltb at list) what (in_hello n at 7)) (after_body n at block)
      (cond (ltb at body) what (after_body n at block))
      (cond (ltb at list) what (after_list n at body block))
      (in_hello n at what) Goes
      (λ p. cond-elim Goes (ltb at list) what (in_hello n at 7)
      (λ t h. rw (in-suites (part_of what) list block body list n p) (ltb-true at list t))
      (λ t. goes-in-hello 7 none-of-0))
      (λ p. goes-after-body)
      (λ p. cond-elim Goes (ltb at body) what (after_body n at block)
      (λ t h. rw (in_body (part_of what) list block body list n p) (ltb-true at body t))
      (λ t. goes-after-body))
      (λ p. cond-elim Goes (ltb at list) what (after_list n at body block)
      (λ t h. rw (in_list (part_of what) list block body list n p) (ltb-true at list t))
      (λ t. goes-after-list))
      (λ p. goes-in-hello what p)

-- ---- Ends that lie in the hello stay there

pub record CursorWithin (n : ℕ) (c : Cursor) : Type 0 where
  pub at : c.at ≤ n
  pub list : c.list ≤ n
  pub body : c.body ≤ n
  pub block : c.block ≤ n

pub settle-ready : (n : ℕ) (c : Cursor) → CursorWithin n c → Ready n (settle n c)
settle-ready n c w =
    record {
      inside = w.at;
      list = w.list;
      body = w.body;
      block = w.block;
      goes_on = goes-settled n c.at c.list c.body c.block c.what;
    }

-- at a place
abbrev pub Placed : ℕ → ℕ → Cursor → Type 0
Placed n at c = CursorWithin n c × (c.at ≡ at)

module _ (n : ℕ) (c : Cursor) (r : Ready n c) (at what end : ℕ) where
  pub opened-within : at ≤ n → end ≤ n → Placed n at (opened c at what end)
  unfolding opened
  opened-within h k =
      by_part_lem (part_of what) _ _ _ _ _ (Placed n at) (λ p. (record { at = h; list = k; body = r.body; block = r.block }, refl))
      (λ p. (record { at = h; list = r.list; body = r.body; block = k }, refl))
      (λ p. (record { at = h; list = r.list; body = k; block = r.block }, refl))
      (λ p. (record { at = h; list = k; body = r.body; block = r.block }, refl))
      (λ p. (record { at = h; list = r.list; body = r.body; block = r.block }, refl))
