-- The questions on name, connection id, tape and output, and the answers of the maker. Assumes nothing.
use Prim.Native.Nat.{ℕ, ◌≤◌, ◌<◌}
use mathlib.Core.Path.{◌≡◌, sym, ap, ◌∙◌}
use mathlib.Core.Bool.{true, false}
use mathlib.Core.List.{List}
use native.Mathlib.Omega.{arith}
use lib.ListN.{length}
use lib.Dec.{ltb, leb}
use borrow.Author.Tests.{leb-true, lt-ltb, le-ltb}
use Rattle.std.specs.Prelude.{Result, Ok, Err}
use Rattle.wire.specs.Answer.{Answer, result, refused, told}
use Rattle.wire.specs.Refusals.{question, answer_of}
use Rattle.wire.specs.declared.refusals.Refusal.{Refusal}
use Rattle.wire.specs.declared.refusals.Refusal.TheVariants as no
use Rattle.wire.proofs.AnswerLaws.{ask-yes, told-answer}
use Rattle.wire.specs.Sums.{distinct}
use Rattle.profiles.specs.Profile.{Profile, for_browser}
use Rattle.profiles.specs.Sizes.{longest, tape_needed}
use Rattle.profiles.specs.Test.{passes}
use Rattle.profiles.specs.Code.{profile_of, Sound}
use Rattle.profiles.specs.declared.Profile as code
use Rattle.profiles.proofs.TestLaws.{passed}
use Rattle.tape.specs.Part.{Room, Puts}
use Rattle.tape.specs.declared.Wrote.{Wrote}
use Rattle.tls.specs.Hello.{hello}
use Rattle.tls.specs.Make.{ask_room, make_with, after_make_with, make_of, after_make, no_hello, MakesWith, Makes}
use Rattle.tls.specs.Writing.{HelloRoom}
use Rattle.tls.specs.declared.Hello.{Hello}
use Rattle.tls.proofs.QuestionLaws.{Before, none, more}
use Rattle.tls.proofs.NameLaws.{as_name, before-name, named}

abbrev pub as_room : Profile → ℕ → ℕ → ℕ → ℕ → Answer (Unit {0})
as_room p n s t room = ask_room p n s t room (result tt)

module _ {A : Type 0} (next : Answer A) where
  before-room : (p : Profile) (n s t room : ℕ) → Before next (ask_room p n s t room next) (as_room p n s t room)
  unfolding ask_room
  before-room p n s t room =
      more (leb s 20) 7
      (more (leb (tape_needed p) t) 8 (more (leb (longest p n s) room) 9 (none next)))

-- ---- what the code knows when no question was answered "no"

pub record Roomy (p : Profile) (n s t room : ℕ) : Type 0 where
  pub short-id : s ≤ 20
  pub tape-there : tape_needed p ≤ t
  pub longest-fits : longest p n s ≤ room

pub roomy : (p : Profile) (n s t room : ℕ) → as_room p n s t room ≡ result tt → Roomy p n s t room
unfolding ask_room
roomy p n s t room e =
    let a = ask-yes (leb s 20) 7 _ tt e in
    let b = ask-yes (leb (tape_needed p) t) 8 _ tt a.1 in
    let c = ask-yes (leb (longest p n s) room) 9 (result tt) tt b.1 in
    record { short-id = leb-true s 20 a.0; tape-there = leb-true (tape_needed p) t b.0; longest-fits = leb-true (longest p n s) room c.0 }

-- the hello has room, by the sizes of every hello of a profile that passes the test
pub hello-room : (p : code.Profile) (name scid tape : List ℕ) {room : ℕ} → Sound p
    → as_name name ≡ result tt → as_room (profile_of p) (length name) (length scid) (length tape) room ≡ result tt
    → (distinct (profile_of p).extensions_order ≡ true
    → (length (hello (profile_of p) name scid tape).bytes ≤ longest (profile_of p) (length name) (length scid))
    × ((hello (profile_of p) name scid tape).next ≤ tape_needed (profile_of p)))
    → (passes (profile_of p) ≡ true → length name ≤ 255 → length scid ≤ 20 → length (hello (profile_of p) name scid tape).bytes ≤ 16384)
    → HelloRoom p name scid tape room
hello-room p name scid tape {room} sound e f suffices fits =
    let short = (named name e).short in
    let r = roomy (profile_of p) (length name) (length scid) (length tape) room f in
    let sizes = suffices (passed (profile_of p) sound.test).types-once in
    record {
      sound = sound;
      short_name = omega arith;
      short_id = omega (arith, r.short-id);
      has = record {
        fits = omega (arith, sizes.0, r.longest-fits);
        small = omega (arith, fits sound.test short r.short-id);
        there = omega (arith, sizes.1, r.tape-there);
      };
    }

-- ---- the answers of `make_with`

module _ (p : Profile) (name scid tape old : List ℕ) where
  abbrev sent : Hello
  sent = record { length = length (hello p name scid tape).bytes; drawn = (hello p name scid tape).next }

  abbrev rest : Answer Hello
  rest = ask_room p (length name) (length scid) (length tape) (length old) (result sent)

  refuses : (e : Refusal) → make_with p name scid tape (length old) ≡ refused (question e) → MakesWith p name scid tape old (Err e) old
  unfolding after_make_with
  refuses e a = record { is = sym a; output = rw a; bounds = tt }

  pub refuses-name : (e : Refusal) → as_name name ≡ refused (question e) → MakesWith p name scid tape old (Err e) old
  unfolding make_with
  refuses-name e n = refuses e ((before-name rest name).no (question e) n)

  module _ (yes : as_name name ≡ result tt) where
    past-name : make_with p name scid tape (length old) ≡ rest
    unfolding make_with
    past-name = (before-name rest name).yes yes

    abbrev room : Answer (Unit {0})
    room = as_room p (length name) (length scid) (length tape) (length old)

    past-room : Before (result sent) rest room
    past-room = before-room (result sent) p (length name) (length scid) (length tape) (length old)

    pub refuses-room : (e : Refusal) → room ≡ refused (question e) → MakesWith p name scid tape old (Err e) old
    refuses-room e n = refuses e (past-name ∙ past-room.no (question e) n)

    pub makes-hello : {w : Wrote} {new : List ℕ} → room ≡ result tt → Room (hello p name scid tape) (length old) (length tape) → Puts (hello p name scid tape) w old new
        → MakesWith p name scid tape old (Ok (record { length = w.length; drawn = w.next })) new
    unfolding after_make_with
    makes-hello y r q =
        let a : make_with p name scid tape (length old) ≡ result sent = past-name ∙ past-room.yes y in
        record {
          is = rw (q.put.count, q.next) (sym a);
          output = rw a q.put.output;
          bounds = (omega (arith, q.put.count, r.fits), omega (arith, q.next, r.there));
        }

-- ---- the answers of `generate_client_hello`

module _ (browser : ℕ) (name scid tape old : List ℕ) where
  pub refuses-browser : 3 ≤ browser → Makes browser name scid tape old (Err no.UnknownProfile) old
  unfolding make_of after_make
  refuses-browser h =
      let large : ltb browser 3 ≡ false = le-ltb browser 3 h in
      record { is = rw large; tells = rw large; output = rw large; bounds = tt }

  pub makes-browser : {r : Result Hello Refusal} {new : List ℕ} (p : Profile) → browser < 3 → p ≡ for_browser browser → MakesWith p name scid tape old r new
      → Makes browser name scid tape old r new
  unfolding make_of after_make after_make_with
  makes-browser {r} p h e m =
      let yes : ltb browser 3 ≡ true = lt-ltb browser 3 h in
      let is : answer_of r ≡ make_of browser name scid tape (length old) = m.is ∙ rw (yes, e) in
      record { is = is; tells = told-answer no_hello r ∙ ap (told no_hello) is; output = m.output ∙ rw (yes, e); bounds = m.bounds }
