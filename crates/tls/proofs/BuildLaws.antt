-- What the writers take from a profile, and extensions by type and in a row. Assumes nothing.
use Prim.Native.Nat.{ℕ, ◌+◌, ◌≤◌, ◌<◌}
use mathlib.Core.Path.{◌≡◌, refl}
use mathlib.Core.Logic.{◌≢◌}
use mathlib.Core.Bool.{true}
use mathlib.Core.List.{List, [], ◌∷◌}
use native.Mathlib.Numerals.{add-one}
use native.Mathlib.Omega.{arith}
use lib.ListN.{length, take, drop, get_or}
use lib.Seq.{drop-cons}
use Rattle.std.proofs.lemmas.List.{length-take}
use Rattle.wire.specs.Front.{Put}
use Rattle.wire.proofs.FrontLaws.{front-none}
use Rattle.profiles.specs.Profile.{Parameter, varint, bytes, version_info, scid_source, grease, Profile}
use Rattle.profiles.specs.Test.{parameter_ok, passes}
use Rattle.profiles.specs.Code.{profile_of, Sound}
use Rattle.profiles.specs.declared.Profile as code
use Rattle.profiles.proofs.TestLaws.{all-at, passed, name-ok, name_ok, varint-ok, bytes_ok, version-info-ok, scid-source-ok}
use Rattle.tape.specs.Part.{undrawn, followed, Room, Puts}
use Rattle.tape.specs.declared.Wrote.{Wrote}
use Rattle.tls_extensions.specs.Extensions.{fixed_extension}
use Rattle.tls_parameters.specs.Writing.{HasVarints, AllVarints}
use Rattle.tls.specs.Hello.{build_extension, build_extensions}

-- ---- a list of a profile, the first k of an array

pub length-first : {A : Type 0} (k : ℕ) (l : List A) → length (take k l) ≤ k
length-first k l = omega (arith, length-take k l)

-- the one protocol has a name of at most 255 bytes
pub protocol-short : (p : code.Profile) → Sound p → length p.alpn < 256
protocol-short p sound =
    let ok = all-at name_ok (p.alpn ∷ []) [] (passed (profile_of p) sound.test).protocols-ok 0 (omega arith) in
    omega (arith, (name-ok p.alpn ok).0.below)

-- ---- a writer that draws nothing

pub undrawn-puts : {bs old new : List ℕ} {n at : ℕ} {r : Wrote} → Put bs n old new → (r.length ≡ n) × (r.next ≡ at) → Puts (undrawn bs at) r old new
undrawn-puts p s = record { put = rw s.0 p; next = s.1 }

pub undrawn-room : {bs : List ℕ} {n at room tape : ℕ} → length bs ≡ n → Room (undrawn bs at) room tape → n ≤ room
undrawn-room e r = rw e at r.fits

-- nothing is written
pub put-none : (old : List ℕ) → Put [] 0 old old
put-none old = record { count = refl; output = front-none old }

-- a type that none of the writers above is for
pub build-fixed : (p : Profile) (name scid tape : List ℕ) (t at : ℕ)
    → t ≢ 0 → t ≢ 16 → t ≢ 10 → t ≢ 13 → t ≢ 43 → t ≢ 51 → t ≢ 57 → t ≢ 27 → t ≢ 65037
    → build_extension p name scid tape t at ≡ undrawn (fixed_extension t) at
unfolding build_extension
build-fixed p name scid tape t at h0 h1 h2 h3 h4 h5 h6 h7 h8 = grind (arith, h0, h1, h2, h3, h4, h5, h6, h7, h8)

-- ---- extensions in a row

-- from place i on: the one at i, and those after it
pub extensions-from : (p : Profile) (name scid tape types : List ℕ) (i t : ℕ) → i < length types
    → build_extensions p name scid tape (drop i types) t
    ≡ followed (build_extension p name scid tape (get_or types i 0) t) (build_extensions p name scid tape (drop (i + 1) types))
unfolding build_extensions
extensions-from p name scid tape types i t h = rw (add-one, drop-cons types i 0 h)

-- ---- transport parameters

-- ids are below 2^61
has-varints : (q : Parameter) → parameter_ok q ≡ true → HasVarints q
has-varints (varint i v) e = (omega (arith, varint-ok i v e), (varint-ok i v e).1)
has-varints (bytes i b) e = omega (arith, (bytes_ok i b e).0)
has-varints (version_info i) e = omega (arith, version-info-ok i e)
has-varints (scid_source i) e = omega (arith, scid-source-ok i e)
has-varints grease e = tt

all-varints : (p : Profile) → passes p ≡ true → AllVarints p.quic_tp
all-varints p test j h = has-varints (get_or p.quic_tp j grease) (all-at parameter_ok p.quic_tp grease (passed p test).parameters-ok j h)

-- what `ext_quic_tp` asks for of the profile's parameters
pub own-varints : (p : code.Profile) → Sound p → AllVarints (profile_of p).quic_tp
own-varints p sound = all-varints (profile_of p) sound.test
