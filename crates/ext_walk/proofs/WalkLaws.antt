-- Reached by step, the walk over an accepted hello finds the extensions of its report, in their order, and comes to the end. Assumes nothing.
use Prim.Native.Nat.{ℕ, zero, suc, ◌+◌, ◌-◌, ◌≤◌, ◌<◌}
use mathlib.Core.Path.{◌≡◌, refl, sym, ap, ◌∙◌, subst}
use mathlib.Core.Bool.{not, ◌&&◌}
use mathlib.Core.Logic.{⊎_elim}
use mathlib.Core.List.{List, [], ◌∷◌, ◌++◌, map, append-nil}
use mathlib.Core.Option.{Option, none, some}
use native.Mathlib.Omega.{arith}
use lib.ListN.{length, take, drop, length-drop, drop_of_length-le}
use lib.Seq.{append_snoc, drop-drop}
use lib.Dec.{leb, ltb}
use Rattle.wire.specs.Answer.{result, and_then}
use Rattle.wire.specs.Numbers.{number}
use Rattle.wire.specs.Sums.{member}
use Rattle.wire.proofs.AnswerLaws.{same-result, ask-yes, and_then-result}
use Rattle.wire.proofs.ListLaws.{lt-or-le}
use Rattle.profiles.specs.declared.ExtType.{ExtType}
use Rattle.fingerprint_bodies.specs.Entries.{Entry, entry}
use Rattle.fingerprint_bodies.specs.Body.{kind}
use Rattle.fingerprint_bodies.specs.Forms.{body_of, ids_new, within_counts}
use Rattle.fingerprint_bodies.proofs.BindLaws.{none-some, same_some}
use Rattle.fingerprint_lists.specs.Arrays.{ext_type}
use Rattle.fingerprint.specs.ClientHello.{Extension, ClientHello, type_of}
use Rattle.fingerprint.specs.Reader.{Raw, one_extension, ask_body, extension, walk, all_extensions, with_extensions, read_fields, read_extensions, read}
use Rattle.fingerprint.specs.Report.{report}
use Rattle.fingerprint.specs.Code.{HeaderFound}
use Rattle.fingerprint.proofs.StepLaws.{head-short, head-long, head-found}
use Rattle.fingerprint.proofs.WalkTrips.{in_form-result, walk_none, walk_turn}
use Rattle.std.specs.Prelude.{Ok, Err, None}
use Rattle.wire.specs.declared.refusals.Refusal.{Refusal}
use Rattle.ext_walk.specs.declared.Extension as code
use Rattle.ext_walk.specs.Steps.{Reached, stands, step_at, steps, all_steps}
use Rattle.ext_walk.proofs.StepLaws.{step_end, step_cut, step-found, first_found}
use Rattle.ext_walk.proofs.BlockLaws.{block-ends}

-- the ends of an extension that the reader took
record There (h : List ℕ) (at : ℕ) : Type 0 where
  type : ℕ
  start : ℕ
  end : ℕ
  found : HeaderFound h at type start end

there : (h : List ℕ) (at : ℕ) (r : Entry Raw) → one_extension (drop at h) ≡ some r → There h at
there h at r e =
    let n = number 256 (take 2 (drop (at + 2) h)) in
    let t = number 256 (take 2 (drop at h)) in
    let inside : (four : 4 ≤ length h - at) → n ≤ length h - (at + 4) → There h at =
    λ four l. record { type = t; start = at + 4; end = at + 4 + n; found = head-found h at n four refl t refl l } in
    let header : 4 ≤ length h - at → There h at =
    λ four. ⊎_elim (λ l. absurd (none-some (sym (head-long h at n four refl l) ∙ e))) (inside four) (lt-or-le (length h - (at + 4)) n) in
    ⊎_elim (λ l. absurd (none-some (sym (head-short h at l) ∙ e))) header (lt-or-le (length h - at) 4)

-- ---- what a step says

apart-end : {t : ExtType} {a b : ℕ} → ◌≡◌ {A = Reached} (Ok None) (stands t a b) → ⊥
apart-end e = let z : ◌≡◌ {A = ℕ} 0 1 = cc in omega arith

apart-refused : {n : Refusal} {t : ExtType} {a b : ℕ} → ◌≡◌ {A = Reached} (Err n) (stands t a b) → ⊥
apart-refused e = let z : ◌≡◌ {A = ℕ} 0 1 = cc in omega arith

-- the range of a step's body lies inside the hello, after the header, and holds the bytes that the reader takes; its end is where the
-- reader goes on
pub step_range : (h : List ℕ) (at : ℕ) (t : ExtType) (start end : ℕ) → step_at h at ≡ stands t start end → HeaderFound h at t.0 start end
step_range h at t start end e =
    ⊎_elim (λ here. go here (one_extension (drop at h)) refl) (λ past. absurd (apart-end (sym (step_end h at past) ∙ e))) (lt-or-le at (length h))
  where
    same : (w : There h at) → ◌≡◌ {A = Reached} (stands (ext_type w.type) w.start w.end) (stands t start end) → HeaderFound h at t.0 start end
    same w i =
        let whole : ◌≡◌ {A = code.Extension} (record { ext_type = ext_type w.type; start = w.start; end = w.end }) (record { ext_type = t; start = start; end = end }) = cc in
        let first : ext_type w.type ≡ t = ap (λ (x : code.Extension). x.ext_type) whole in
        let second : w.start ≡ start = ap (λ (x : code.Extension). x.start) whole in
        let third : w.end ≡ end = ap (λ (x : code.Extension). x.end) whole in
        subst (λ (k : ExtType). HeaderFound h at k.0 start end) first
        (subst (λ (k : ℕ). HeaderFound h at w.type k end) second (subst (λ (k : ℕ). HeaderFound h at w.type w.start k) third w.found))

    go : at < length h → (x : Option (Entry Raw)) → one_extension (drop at h) ≡ x → HeaderFound h at t.0 start end
    go here none x = absurd (apart-refused (sym (step_cut h at here x) ∙ e))
    go here (some r) x =
        let w = there h at r x in
        same w (sym (step-found h at w.type w.start w.end w.found) ∙ e)

-- ---- one extension of the reader's

-- the questions of a body leave the type
asked-type : (done : List Extension) (r : Raw) (x : Extension) → ask_body done r ≡ result x → x.type ≡ r.type
unfolding ask_body
asked-type done r x e =
    let p = ask-yes (not (member r.type (map type_of done))) 21 _ x e in
    let q = in_form-result (body_of (kind r.type) r.bytes) 21 _ x p.1 in
    let i = ask-yes (ids_new q.value) 22 _ x q.after in
    let c = ask-yes (within_counts q.value && ltb (length done) 64) 23 _ x i.1 in
    sym (ap type_of (same-result (record { type = r.type; body = q.value }) x c.1))

-- an extension that the reader took, by its type and its ends
record Took (h : List ℕ) (at : ℕ) (x : Entry Extension) : Type 0 where
  ends : There h at
  type-is : x.value.type ≡ ends.type
  rest-is : x.rest ≡ drop ends.end h

took : (h : List ℕ) (at : ℕ) (done : List Extension) (x : Entry Extension) → extension done (drop at h) ≡ result x → Took h at x
unfolding extension
took h at done x e =
    let i = in_form-result (one_extension (drop at h)) 20 _ x e in
    let r = i.value in
    let q = and_then-result (ask_body done r.value) (λ y. result (entry y r.rest)) x i.after in
    let w = there h at r i.is in
    let same = same_some r _ (sym i.is ∙ w.found.is) in
    let made = same-result (entry q.value r.rest) x q.after in
    record {
      ends = w;
      type-is =
          ap (λ (y : Entry Extension). y.value.type) (sym made) ∙ asked-type done r.value q.value q.is
          ∙ ap (λ (y : Entry Raw). y.value.type) same;
      rest-is = ap (λ (y : Entry Extension). y.rest) (sym made) ∙ ap (λ (y : Entry Raw). y.rest) same;
    }

-- ---- all of them

-- what the reader's walk adds to those done is what the steps find
record Stepped (g : ℕ) (h : List ℕ) (at : ℕ) (done es : List Extension) : Type 0 where
  added : List Extension
  all : done ++ added ≡ es
  is : steps g h at ≡ result (map type_of added)

steps-end : (f g : ℕ) (h : List ℕ) (at : ℕ) (done es : List Extension) → length h ≤ at → walk f done (drop at h) ≡ result es → Stepped (suc g) h at done es
unfolding steps
steps-end f g h at done es l e =
    let none_left : walk f done (drop at h) ≡ result done = rw (drop_of_length-le h {i = at} l) (walk_none f done) in
    record { added = []; all = append-nil done ∙ same-result done es (sym none_left ∙ e); is = rw (step_end h at l) }

steps_on : (g : ℕ) (h : List ℕ) (at : ℕ) (ts : List ℕ) (w : There h at) → steps g h w.end ≡ result ts → steps (suc g) h at ≡ result (w.type ∷ ts)
unfolding steps
steps_on g h at ts w e = rw (step-found h at w.type w.start w.end w.found, e)

-- one extension, and then what is found from its end on
module _ (f g : ℕ) (h : List ℕ) (at : ℕ) (done es : List Extension) (here : at < length h) where
  abbrev After : Type 0
  After =
      (to : ℕ) (more : List Extension) → length h - to ≤ f → length h - to < g → walk f more (drop to h) ≡ result es → Stepped g h to more es

  steps-took : (x : Entry Extension) → length h - at ≤ suc f → length h - at < suc g → Took h at x → walk f (done ++ (x.value ∷ [])) x.rest ≡ result es
      → After → Stepped (suc g) h at done es
  steps-took x k l w e after =
      let found = w.ends.found in
      let on = subst (λ (bs : List ℕ). walk f (done ++ (x.value ∷ [])) bs ≡ result es) w.rest-is e in
      let less : length h - w.ends.end < length h - at = omega (arith, found.after-header, found.forward, here) in
      let r = after w.ends.end (done ++ (x.value ∷ [])) (omega (arith, k, less)) (omega (arith, l, less)) on in
      record {
        added = x.value ∷ r.added;
        all = sym (append_snoc done x.value r.added) ∙ r.all;
        is = steps_on g h at (map type_of r.added) w.ends r.is ∙ ap (λ (t : ℕ). result (t ∷ map type_of r.added)) (sym w.type-is);
      }

  steps_next : length h - at ≤ suc f → length h - at < suc g → walk (suc f) done (drop at h) ≡ result es → After → Stepped (suc g) h at done es
  steps_next k l e after =
      let turn = walk_turn f done (drop at h) (omega (arith, here, length-drop at h)) in
      let p = and_then-result (extension done (drop at h)) (λ y. walk f (done ++ (y.value ∷ [])) y.rest) es (sym turn ∙ e) in
      steps-took p.value k l (took h at done p.value p.is) p.after after

-- either fuel is enough
steps-walk : (f g : ℕ) (h : List ℕ) (at : ℕ) (done es : List Extension) → length h - at ≤ f → length h - at < g → walk f done (drop at h) ≡ result es
    → Stepped g h at done es
steps-walk f zero h at done es k l e = absurd (omega arith)
steps-walk zero (suc g) h at done es k l e = steps-end zero g h at done es (omega (arith, k)) e
steps-walk (suc f) (suc g) h at done es k l e =
    ⊎_elim (λ here. steps_next f g h at done es here k l e (λ to more. steps-walk f g h to more es))
    (λ past. steps-end (suc f) g h at done es past e) (lt-or-le at (length h))

-- THE WALK FINDS THE REPORT'S EXTENSIONS, in their order, and comes to the end of the hello
pub steps-report : (h : List ℕ) (v : ClientHello) → read h ≡ result v → all_steps h ≡ result (report v).extensions
unfolding read read_extensions all_extensions all_steps report
steps-report h v e =
    let p = and_then-result (read_fields h) read_extensions v e in
    let f = p.value in
    let r = ask-yes (leb (length f.cipher_suites) 64) 23 (and_then (all_extensions f.block) (λ es. result (with_extensions f es))) v p.after in
    let s = and_then-result (all_extensions f.block) (λ es. result (with_extensions f es)) v r.1 in
    let same : s.value ≡ v.extensions = ap (λ (u : ClientHello). u.extensions) (same-result (with_extensions f s.value) v s.after) in
    let b = block-ends h f p.is in
    let at = 1 + b.1.place in
    let block : f.block ≡ drop at h = b.1.is ∙ drop-drop b.1.place 1 h in
    let inside : at ≤ length h = omega (arith, b.0, b.1.inside, length-drop 1 h) in
    let on = subst (λ (bs : List ℕ). walk (length f.block) [] bs ≡ result s.value) block s.is in
    let w = steps-walk (length f.block) (length h) h at [] s.value (omega (arith, ap length block, length-drop at h)) (omega (arith, b.0)) on in
    rw (first_found h f at inside p.is block, w.is, w.all, same)
