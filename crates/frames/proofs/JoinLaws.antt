-- The loop of `join_all`: the pieces placed and the frames still to be read give what all frames give. Assumes nothing.
use Prim.Native.Nat.{ℕ, ◌+◌, ◌-◌, ◌≤◌, ◌<◌}
use mathlib.Core.Path.{◌≡◌, refl, sym, ap, ◌∙◌}
use mathlib.Core.Bool.{true, false}
use mathlib.Core.List.{List, []}
use mathlib.Core.Option.{none, some}
use native.Mathlib.Omega.{arith}
use lib.ListN.{length, take, drop, replicate}
use lib.Dec.{lit≤}
use Rattle.wire.specs.Answer.{result, refused}
use Rattle.wire.specs.Refusals.{question}
use Rattle.wire.proofs.AnswerLaws.{apart, same-result}
use Rattle.wire.specs.Stops.{stopped}
use Rattle.frames.specs.Frame.{Piece}
use Rattle.frames.specs.Stream.{gapless, stream}
use Rattle.frames.specs.Join.{limit, close, join}
use Rattle.frames.specs.Stops.{stop_at, join_stops}
use Rattle.frames.specs.Buffers.{Carries, marked, Stepping, Joining}
use Rattle.std.specs.Prelude.{Ok, Err}
use Rattle.wire.specs.declared.refusals.Refusal.{Refusal}
use Rattle.wire.specs.declared.refusals.Refusal.TheVariants as no
use Rattle.frames.proofs.EachLaws.{length-values}
use Rattle.frames.proofs.RunLaws.{Running}
use Rattle.frames.proofs.RunLaws as run
use Rattle.frames.proofs.CarryLaws.{cleared, marked-as, stream-held, ones-held}

-- the buffers carry the pieces placed, and the frames from a place on give what all give
pub record Laying (frames out₀ marks₀ out marks : List ℕ) (at end : ℕ) : Type 0 where
  pub placed : List Piece
  pub carries : Carries placed out marks end
  pub running : Running frames at placed
  pub ends : end ≤ limit
  pub long : length out ≡ length out₀
  pub wide : length marks ≡ length marks₀

pub starts : (frames out marks : List ℕ) → out ≡ replicate (length out) 0 → marks ≡ replicate (length marks) 0 → Laying frames out marks out marks 0 0
starts frames out marks o m =
    record {
      placed = [];
      carries = rw (← o, ← m) at (cleared (length out) (length marks));
      running = run.starts frames;
      ends = lit≤ tt;
      long = refl;
      wide = refl;
    }

refuses : (frames out marks : List ℕ) (k : Refusal) (at : ℕ) (out' marks' : List ℕ) → join frames ≡ refused (question k)
    → join_stops frames ≡ some (stopped (question k) at) → at ≤ length frames
    → Joining frames out marks (Err (record { refusal = k; place = at })) out' marks'
refuses frames out marks k at out' marks' j p h =
    record { is = rw j; stop = sym p; output = λ s q. absurd (apart (sym j ∙ q)); ones = λ s q. absurd (apart (sym j ∙ q)); bounds = h }

module _ {frames out₀ marks₀ out marks : List ℕ} {at e : ℕ} (i : Laying frames out₀ marks₀ out marks at e) where
  module _ {out' marks' : List ℕ} (h : at < length frames) where
    pub goes_on : {used l : ℕ} → Stepping (drop at frames) out marks e (Ok (record { used = used; end = l })) out' marks' → length out' ≡ length out → length marks' ≡ length marks
        → Laying frames out₀ marks₀ out' marks' (at + used) l
    goes_on s a b =
        let w = s.is i.placed i.carries in
        record {
          placed = w.more;
          carries = w.carries;
          running = run.goes_on frames at i.placed i.running w.shape w.more _ w.read w.laid w.width;
          ends = s.bounds.2;
          long = a ∙ i.long;
          wide = b ∙ i.wide;
        }

    pub stops : {k : Refusal} → Stepping (drop at frames) out marks e (Err k) out' marks' → Joining frames out₀ marks₀ (Err (record { refusal = k; place = at })) out' marks'
    stops {k} s =
        let r = run.stops frames at i.placed i.running (question k) h (s.is i.placed i.carries) in
        refuses frames out₀ marks₀ k at out' marks' r.0 r.1 (omega arith)

  module _ (h : length frames ≤ at) (ho : limit ≤ length out₀) (hm : limit ≤ length marks₀) where
    closes : join frames ≡ close i.placed
    closes = run.ends frames at i.placed i.running h

    stops-last : join_stops frames ≡ stop_at (length frames) (join frames) (λ s. none)
    stops-last = run.ends_there frames at i.placed i.running h

    below : e ≤ length marks
    below = omega (arith, i.ends, i.wide)

    marked-below : marked (take (e - 0) (drop 0 marks)) ≡ gapless i.placed
    marked-below =
        let z : e - 0 ≡ e = omega arith in
        rw z (marked-as i.placed out marks e i.carries below)

    pub ends-whole : marked (take (e - 0) (drop 0 marks)) ≡ true → Joining frames out₀ marks₀ (Ok e) out marks
    unfolding close stream
    ends-whole m =
        let g : gapless i.placed ≡ true = sym marked-below ∙ m in
        let j : join frames ≡ result (stream i.placed) = closes ∙ rw g in
        let same : (s : List ℕ) → join frames ≡ result s → stream i.placed ≡ s =
        λ s q. same-result (stream i.placed) s (sym j ∙ q) in
        record {
          is = rw (j, length-values) (ap result i.carries.ends);
          stop = sym (stops-last ∙ rw j);
          output = λ s q. rw (← same s q, ← i.long) (stream-held i.placed out marks e i.carries below (omega (arith, i.ends, i.long)));
          ones = λ s q. rw (← same s q, ← i.wide) (ones-held i.placed out marks e i.carries below g);
          bounds = i.ends;
        }

    pub ends-gap : marked (take (e - 0) (drop 0 marks)) ≡ false → Joining frames out₀ marks₀ (Err (record { refusal = no.StreamGap; place = length frames })) out marks
    unfolding close
    ends-gap m =
        let g = sym marked-below ∙ m in
        let j : join frames ≡ refused 15 = closes ∙ rw g in
        refuses frames out₀ marks₀ no.StreamGap (length frames) out marks j (stops-last ∙ rw j) (omega arith)
