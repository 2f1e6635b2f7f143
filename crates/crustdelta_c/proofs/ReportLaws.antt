-- What `crustdelta_report` promises, by whether the hello is accepted and the report fits the output. Assumes nothing.
use Prim.Native.Nat.{ℕ, ◌+◌, ◌^◌, ◌≤◌, ◌<◌}
use mathlib.Core.Path.{◌≡◌}
use mathlib.Core.List.{List}
use lib.ListN.{length}
use borrow.Author.Tests.{le-leb, lt-leb}
use Rattle.wire.specs.Answer.{Answer, result, refused}
use Rattle.wire.specs.Front.{front}
use Rattle.fingerprint.specs.ClientHello.{ClientHello}
use Rattle.fingerprint.specs.Report.{report, shown, parsed_of}
use Rattle.fingerprint_layout.specs.Layout.{layout, report_of, ReportCoded}

module _ (a : Answer ClientHello) (old : List ℕ) where
  pub report-refused : (n : ℕ) → a ≡ refused n → ReportCoded a old (2 ^ 32 + n) old
  unfolding report_of
  report-refused n e = record { is = rw e; output = rw e }

  module _ (v : ClientHello) (e : a ≡ result v) where
    pub report-no-room : length old < 1368 → ReportCoded a old (2 ^ 32 + 100) old
    unfolding report_of
    report-no-room h = let l = lt-leb 1368 (length old) h in record { is = rw (e, l); output = rw (e, l) }

    pub report-written : (new : List ℕ) → 1368 ≤ length old → new ≡ front (layout (shown (report v))) old → ReportCoded a old 1368 new
    unfolding report_of parsed_of
    report-written new h w = let l = le-leb 1368 (length old) h in record { is = rw (e, l); output = rw (e, l) w }
