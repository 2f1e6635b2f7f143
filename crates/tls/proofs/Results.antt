-- What a caller gets of the maker's result: every question was answered "yes", and the output's front is the hello. Assumes nothing.
use Prim.Native.Nat.{ℕ}
use mathlib.Core.Path.{◌≡◌, ap}
use mathlib.Core.Bool.{true}
use mathlib.Core.List.{List}
use lib.ListN.{length, take}
use lib.Dec.{ltb, leb}
use Rattle.wire.specs.Answer.{result}
use Rattle.wire.proofs.AnswerLaws.{same-result, ask-yes}
use Rattle.wire.proofs.FrontLaws.{take-front}
use Rattle.profiles.specs.Profile.{for_browser}
use Rattle.profiles.specs.Sizes.{longest, tape_needed}
use Rattle.tls.specs.Hello.{hello}
use Rattle.tls.specs.Make.{ask_room, make_with, make_of, made_bytes, after_make}
use Rattle.tls.specs.declared.Hello.{Hello}
use Rattle.tls.proofs.NameLaws.{Named, named-bytes}

-- questions 4 to 9, each answered "yes", and the result
pub record Answered (browser : ℕ) (name scid tape : List ℕ) (room : ℕ) (h : Hello) : Type 0 where
  pub known : ltb browser 3 ≡ true
  pub name-ok : Named name
  pub short-id : leb (length scid) 20 ≡ true
  pub long-tape : leb (tape_needed (for_browser browser)) (length tape) ≡ true
  pub large-output : leb (longest (for_browser browser) (length name) (length scid)) room ≡ true
  pub is : record { length = length (made_bytes browser name scid tape); drawn = (hello (for_browser browser) name scid tape).next } ≡ h

module _ (browser : ℕ) (name scid tape : List ℕ) (room : ℕ) (h : Hello) (r : make_of browser name scid tape room ≡ result h) where
  pub answered : Answered browser name scid tape room h
  unfolding make_of make_with ask_room
  answered =
      let p = for_browser browser in
      let four = ask-yes (ltb browser 3) 4 _ h r in
      let six = named-bytes name _ h four.1 in
      let seven = ask-yes (leb (length scid) 20) 7 _ h six.1 in
      let eight = ask-yes (leb (tape_needed p) (length tape)) 8 _ h seven.1 in
      let nine = ask-yes (leb (longest p (length name) (length scid)) room) 9 _ h eight.1 in
      record {
        known = four.0;
        name-ok = six.0;
        short-id = seven.0;
        long-tape = eight.0;
        large-output = nine.0;
        is = same-result _ h nine.1;
      }

module _ (browser : ℕ) (name scid tape out : List ℕ) (h : Hello) (r : make_of browser name scid tape (length out) ≡ result h) where
  pub hello-taken : take h.length (after_make browser name scid tape out) ≡ made_bytes browser name scid tape
  unfolding after_make
  hello-taken =
      let long : length (made_bytes browser name scid tape) ≡ h.length = ap (λ (x : Hello). x.length) (answered browser name scid tape (length out) h r).is in
      rw (r, ← long) (take-front (made_bytes browser name scid tape) out)
