-- What `stopped_at` answers, from what the code found. Assumes nothing.
use Prim.Native.Nat.{ℕ, ◌+◌, ◌-◌, ◌≤◌, ◌<◌}
use mathlib.Core.Path.{◌≡◌, sym, subst}
use mathlib.Core.List.{List, []}
use mathlib.Core.Option.{Option, some}
use native.Mathlib.Omega.{arith}
use borrow.Author.Tests.{le-leb, lt-leb}
use lib.ListN.{length, drop, length-drop}
use Rattle.std.specs.Prelude.{Some, None}
use Rattle.std.specs.Prelude as std
use Rattle.wire.specs.Answer.{refused}
use Rattle.wire.specs.Stops.{Stopped, stopped, stop_of, StopWithin, StopBounds}
use Rattle.wire.specs.declared.Stop.{Stop}
use Rattle.fingerprint.specs.declared.head.Head.{Head}
use Rattle.fingerprint.specs.Reader.{read_fields}
use Rattle.fingerprint.specs.Code.{FieldsFound}
use Rattle.fingerprint_stops.specs.Stops.{head_place, walk_stops, extensions_stop, stopped_at}
use Rattle.fingerprint_stops.proofs.StopLaws.{stopped-within}

-- ---- bounds

pub stop-bounds : (h : List ℕ) (r : std.Option Stop) → stop_of r ≡ stopped_at h → StopBounds (length h) r
stop-bounds h None e = tt
stop-bounds h (Some s) e = subst (λ (x : Option Stopped). StopWithin (length h) x) (sym e) (stopped-within h)

pub bounded : (h : List ℕ) (r : std.Option Stop) → stop_of r ≡ stopped_at h → (stop_of r ≡ stopped_at h) × StopBounds (length h) r
bounded h r e = (e, stop-bounds h r e)

-- ---- the answers

pub refused-stop : (h : List ℕ) (n place : ℕ) → read_fields h ≡ refused n → place ≡ head_place h n → some (stopped n place) ≡ stopped_at h
unfolding stopped_at
refused-stop h n place e p = rw (e, p)

module _ {h : List ℕ} {head : Head} (f : FieldsFound h head) where
  pub session-small : head.session ≤ 16384
  session-small = omega (arith, f.place, f.inside, f.short)

  pub suites-stop : 128 < head.suites.length → some (stopped 23 (41 + head.session + 128)) ≡ stopped_at h
  unfolding stopped_at extensions_stop
  suites-stop k = rw (f.is, lt-leb (length f.found.cipher_suites) 64 (omega (arith, f.suites-even, k)), f.session-is)

  pub extensions-stop : head.suites.length ≤ 128 → walk_stops (length (drop head.block h)) head.block [] (drop head.block h) ≡ stopped_at h
  unfolding stopped_at extensions_stop
  extensions-stop k =
      let place : length h - length (drop head.block h) ≡ head.block = omega (arith, length-drop head.block h, f.inside) in
      rw (f.is, le-leb (length f.found.cipher_suites) 64 (omega (arith, f.suites-even, k)), f.block-is, place)
