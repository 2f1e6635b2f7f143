-- A listing that was written is what `show` and `show-frames` say, where its stop is the definition's. Assumes nothing.
use Prim.Native.Nat.{ℕ, ◌≤◌}
use mathlib.Core.Path.{◌≡◌, subst}
use mathlib.Core.List.{List, ◌++◌}
use mathlib.Core.Option.{Option}
use lib.ListN.{length}
use borrow.Author.Tests.{le-leb}
use Rattle.wire.specs.Stops.{Stopped}
use Rattle.fingerprint_stops.specs.Stops.{stopped_at}
use Rattle.show_marks.specs.Text.{verdict_parts}
use Rattle.show_hello.specs.Listing.{Listed}
use Rattle.frames.specs.Join.{limit, roomy}
use Rattle.frames.specs.Stops.{join_stops, joiner_stops}
use Rattle.show_frames.specs.Frames.{FramesListed}
use Rattle.answers_reader.specs.Listings.{ShowsHello, ShowsFrames}
use Rattle.answers.specs.declared.Said.TheVariants as said
use Rattle.answers.proofs.AnswerLaws.{says-result}

pub shows-listing : (h : List ℕ) (stop : Option Stopped) (n : ℕ) (old new : List ℕ) → stop ≡ stopped_at h → Listed h stop n old new → ShowsHello h (said.Answer n) old new
shows-listing h stop n old new e l =
    let l' = subst (λ (s : Option Stopped). Listed h s n old new) e l in
    record { lines = l'.lines; are = l'.are; says = says-result (verdict_parts 4 (stopped_at h) ++ l'.lines) n old new l'.is }

pub shows-frames : (bs : List ℕ) (stop : Option Stopped) (n : ℕ) (old new : List ℕ) → stop ≡ join_stops bs → FramesListed bs stop n old new → ShowsFrames bs (said.Answer n) old new
shows-frames bs stop n old new e l =
    let l' = subst (λ (s : Option Stopped). FramesListed bs s n old new) e l in
    record {
      count = l'.count;
      lines = l'.lines;
      are = l'.are;
      whole = l'.whole;
      says = says-result (verdict_parts 5 (join_stops bs) ++ l'.lines) n old new l'.is;
    }

-- buffers that are long enough leave questions 11 to 15
pub roomy-stops : (bs out marks : List ℕ) → limit ≤ length out → limit ≤ length marks → joiner_stops bs out marks ≡ join_stops bs
unfolding joiner_stops roomy
roomy-stops bs out marks h k = rw (le-leb limit (length out) h, le-leb limit (length marks) k)
