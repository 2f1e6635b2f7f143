-- The third demand, over the definitions: see `third-demand` at the end. Assumes nothing.
use Prim.Native.Nat.{ℕ, ◌-◌, ◌≤◌, ◌<◌}
use mathlib.Core.Path.{◌≡◌, refl, sym, ap, ap₂, subst, ◌∙◌}
use mathlib.Core.Logic.{◌↔◌}
use mathlib.Core.Bool.{true}
use mathlib.Core.List.{List}
use lib.ListN.{length, replicate}
use lib.Seq.{take_at}
use borrow.Author.Tests.{le-leb}
use Rattle.wire.specs.Answer.{result}
use Rattle.wire.proofs.AnswerLaws.{same-result}
use Rattle.profiles.specs.Profile.{for_browser}
use Rattle.frames.specs.Frame.{encode_all}
use Rattle.frames.specs.Join.{limit, roomy}
use Rattle.frames.specs.Lists.{JoinedExactly}
use Rattle.frames.proofs.Joined.{joined-in-buffers}
use Rattle.fingerprint.specs.ClientHello.{ClientHello}
use Rattle.fingerprint.specs.Reader.{read}
use Rattle.fingerprint.specs.Report.{report}
use Rattle.fingerprint.specs.InRange.{InRange}
use Rattle.fingerprint_bodies.proofs.BindLaws.{same_some}
use Rattle.alike.specs.Alike.{Likeness, likeness, alike, Same, Alike}
use Rattle.alike.proofs.AlikeLaws.{alike-exactly, same_self, same_back, same-on}
use Rattle.third_demand.specs.Demand.{profile_likeness, Greeting, hello_of, front_of, received_of, Sent, Arrives, ThirdDemand}
use Rattle.third_demand.proofs.ProfileLaws.{reported, groups-tell}
use Rattle.third_demand.proofs.MadeLaws.{known, back, short}

-- question 10
pub with-room : (out marks : List ℕ) → limit ≤ length out → limit ≤ length marks → roomy out marks ≡ true
unfolding roomy
with-room out marks h k = rw (le-leb limit (length out) h, le-leb limit (length marks) k)

module _ (g : Greeting) (s : Sent g) where
  -- ---- Joined

  joined : JoinedExactly (encode_all g.frames) (hello_of g) g.out g.marks
  joined =
      joined-in-buffers (hello_of g) g.out g.marks g.frames (short g s.made) s.carried
      (with-room g.out g.marks s.out-room s.marks-room)

  front-part : received_of g ≡ hello_of g
  front-part =
      ap₂ front_of joined.is joined.output
      ∙ take_at (hello_of g) (replicate (length g.out - length (hello_of g)) 0) (length (hello_of g)) refl

  -- ---- Accepted and reported

  pub arrives : Arrives g
  arrives =
      record {
        joined = joined.is;
        output = joined.output;
        marked = joined.marked;
        exactly = front-part;
        value = (back g s.made).value;
        accepted = ap read front-part ∙ (back g s.made).accepted;
        reported = reported g.browser (known g s.made) g.name g.tape (report (back g s.made).value) (back g s.made).shows;
        ranges = subst (λ (l : List ℕ). InRange l (report (back g s.made).value)) (sym front-part) (back g s.made).ranges;
      }

-- ---- Alike

-- two hellos whose reports are the same as x and as y are alike exactly where x and y are the same
module _ (a b : List ℕ) (v w : ClientHello) (x y : Likeness) (e : read a ≡ result v) (f : read b ≡ result w)
    (s : Same x (likeness (report v))) (t : Same y (likeness (report w))) where
  agreed : Alike a b → Same (likeness (report v)) (likeness (report w))
  agreed l =
      let p = same-result l.first.value v (sym l.first.is ∙ e) in
      let q = same-result l.second.value w (sym l.second.is ∙ f) in
      rw (p, q) at l.same

  alike_as : alike (read a) (read b) ≡ true ↔ Same x y
  alike_as = (
    λ l. same-on s (same-on (agreed ((alike-exactly a b).0 l)) (same_back t)),
    λ h.
        (alike-exactly a b).1
        (record { first = record { value = v; is = e }; second = record { value = w; is = f }; same = same-on (same_back s) (same-on h t) }),
  )

-- two profiles and names are known by the same exactly where they are the same
known_by : (b c : ℕ) (name other : List ℕ) → b < 3 → c < 3
    → Same (profile_likeness (for_browser b) name) (profile_likeness (for_browser c) other) ↔ ((b ≡ c) × (name ≡ other))
unfolding profile_likeness
known_by b c name other h k = (
  λ s. (groups-tell b c h k s.groups, same_some name other s.name),
  λ e.
      subst (λ (z : Likeness). Same (profile_likeness (for_browser b) name) z)
      (ap₂ (λ (n : ℕ) (l : List ℕ). profile_likeness (for_browser n) l) e.0 e.1)
      (same_self (profile_likeness (for_browser b) name)),
)

-- THE THIRD DEMAND, in the user's words, sentence by sentence. Beside each stands the part of the statement that it is (specs/Demand.antt has
-- them).
--
--   "Take any two hellos that 01's maker
--    made,"                                    g and h; `Sent` of each has `MadeHello`: the maker answered with a length, for any profile, name,
--                                              connection id, tape and output that its questions 4 to 9 let through
--   "whatever the random tapes and
--    connection ids held."                     `Greeting` has any `tape` and `scid`; `MadeHello` says of them only that they are bytes
--   "Send each in any list of whole frames,
--    in any order:"                            `Greeting` has a `List Frame`; `whole` of `Carry` in `Sent`, in any widths; nothing is said of order,
--                                              repeats or overlap
--   "CRYPTO frames that agree with it and
--    together cover it, none ending beyond
--    it,"                                      `Carry`: `parts`, a `PartOf` for each CRYPTO frame, and `covers`, of all of them
--   "with PADDING and PING anywhere among
--    them."                                    a `Frame` is PADDING, PING or CRYPTO
--   "Whatever the joiner's buffers, of the
--    sizes that question 10 asks, held
--    before,"                                  `Greeting` has any `out` and `marks`; `Sent` asks for their lengths alone
--   "each list is joined to exactly the
--    bytes of its hello,"                      `Arrives`: `joined`, `output`, `marked`, `exactly`
--   "and these are accepted and read back by
--    01's rules."                              `Arrives`: `accepted`, of the front part of the output as the joiner left it; `ranges`: the names in the
--                                              report stand there where it says
--   "Between the two, 01's Alike says yes
--    exactly when profile and name are the
--    same."                                    `ThirdDemand`: `verdict`, both directions, of those two front parts
--   "Each one's report shows its profile's
--    suites, groups, key-share groups,
--    signature algorithms, versions and ALPN,
--    each in the profile's order, and the
--    name that the hello was made with."       `Arrives`: `reported`, a `Same` with the profile's lists and the name: its equations of lists and name
--   "The extension types and
--    transport-parameter ids in it are the
--    profile's, as 01 counts them, in some
--    order, with none missing and none added." `reported` too: in its `types` and `ids` each number stands as often in the report as in the profile
--
-- "It is one claim about two whole lists and not one for each frame or call" (01): one theorem, of any g and any h.
pub third-demand : (g h : Greeting) → Sent g → Sent h → ThirdDemand g h
third-demand g h s t =
    let a = arrives g s in
    let b = arrives h t in
    let x = profile_likeness (for_browser g.browser) g.name in
    let y = profile_likeness (for_browser h.browser) h.name in
    let same = alike_as (received_of g) (received_of h) a.value b.value x y a.accepted b.accepted a.reported b.reported in
    let tell = known_by g.browser h.browser g.name h.name (known g s.made) (known h t.made) in
    record { first = a; second = b; verdict = (λ l. tell.0 (same.0 l), λ l. same.1 (tell.1 l)) }
