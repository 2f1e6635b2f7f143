-- What stands in the block: the profile's extensions, each once, in the order drawn, each with its type and its length in front. Assumes
-- nothing.
use Prim.Native.Nat.{ℕ, ◌+◌, ◌<◌}
use mathlib.Core.Path.{◌≡◌, refl, sym, ap, ◌∙◌}
use mathlib.Core.Bool.{Bool, true, false, cond, not, ◌&&◌, false≢true}
use mathlib.Core.List.{List, [], ◌∷◌, ◌++◌, map, flatten}
use native.Mathlib.Omega.{arith}
use borrow.Author.Tests.{eqb-true, ltb-true}
use lib.ListN.{take}
use lib.Seq.{take_at}
use lib.Dec.{eqb, ltb}
use Rattle.wire.specs.Numbers.{digits, number}
use Rattle.wire.specs.Vectors.{vector, extension}
use Rattle.wire.specs.Sums.{indicator, total, Permutation, any, member}
use Rattle.wire.proofs.NumberLaws.{above, length_digits, number_digits}
use Rattle.wire.proofs.SumLaws.{and_left, and_right}
use Rattle.profiles.specs.Profile.{Profile}
use Rattle.profiles.specs.Sizes.{session_length, after_order}
use Rattle.profiles.specs.Test.{all, counted, word_list, known, passes}
use Rattle.profiles.proofs.TestLaws.{passed}
use Rattle.tape.specs.Tape.{shuffle}
use Rattle.tape.specs.Part.{Part}
use Rattle.tape.proofs.ShuffleLaws.{shuffle-permutes}
use Rattle.tls_extensions.specs.Extensions
use Rattle.tls_parameters.specs.Parameters.{ext_quic_tp}
use Rattle.tls.specs.Hello.{build_extension, build_extensions, order, block}

-- "the extension shuffle for Chrome and Firefox": the order sent is a permutation of the profile's
pub order-permutes : (p : Profile) (tape : List ℕ) → Permutation p.extensions_order (order p tape)
unfolding order
order-permutes p tape f = go p.randomize_extensions_order
  where
    go : (b : Bool)
        → total f p.extensions_order ≡ total f (cond b (shuffle 0 p.extensions_order tape (32 + session_length p)) p.extensions_order)
    go true = shuffle-permutes 0 p.extensions_order tape (32 + session_length p) f
    go false = refl

-- ---- the block, extension by extension

-- "then what each extension needs, in the order now standing"
unfoldable pub pieces : Profile → List ℕ → List ℕ → List ℕ → List ℕ → ℕ → List (List ℕ)
pieces p name scid tape [] at = []
pieces p name scid tape (t ∷ ts) at =
    (build_extension p name scid tape t at).bytes ∷ pieces p name scid tape ts (build_extension p name scid tape t at).next

-- the extensions of the block of a hello
abbrev pub block_pieces : Profile → List ℕ → List ℕ → List ℕ → List (List ℕ)
block_pieces p name scid tape = pieces p name scid tape (order p tape) (after_order p)

joined : (p : Profile) (name scid tape ts : List ℕ) (at : ℕ)
    → (build_extensions p name scid tape ts at).bytes ≡ flatten (pieces p name scid tape ts at)
unfolding build_extensions pieces flatten
joined p name scid tape [] at = refl
joined p name scid tape (t ∷ ts) at =
    ap (λ (r : List ℕ). (build_extension p name scid tape t at).bytes ++ r)
    (joined p name scid tape ts (build_extension p name scid tape t at).next)

pub block-joined : (p : Profile) (name scid tape : List ℕ) → (block p name scid tape).bytes ≡ flatten (block_pieces p name scid tape)
unfolding block
block-joined p name scid tape = joined p name scid tape (order p tape) (after_order p)

-- ---- "An extension has a 2-byte type, a 2-byte length and a body."

pub record Shaped (t : ℕ) (bs : List ℕ) : Type 0 where
  pub body : List ℕ
  pub is : bs ≡ extension t body

shaped : (t : ℕ) (body : List ℕ) → Shaped t (extension t body)
shaped t body = record { body = body; is = refl }

by-type : (t k : ℕ) (x y : Part) → (eqb t k ≡ true → Shaped k x.bytes) → (eqb t k ≡ false → Shaped t y.bytes)
    → Shaped t (cond (eqb t k) x y).bytes
by-type t k x y here other = go (eqb t k) refl
  where
    go : (b : Bool) → eqb t k ≡ b → Shaped t (cond b x y).bytes
    go true e = rw (eqb-true t k e) (here e)
    go false e = other e

by_bytes : (t k : ℕ) (x y : List ℕ) → (eqb t k ≡ true → Shaped k x) → (eqb t k ≡ false → Shaped t y) → Shaped t (cond (eqb t k) x y)
by_bytes t k x y here other = go (eqb t k) refl
  where
    go : (b : Bool) → eqb t k ≡ b → Shaped t (cond b x y)
    go true e = rw (eqb-true t k e) (here e)
    go false e = other e

-- each extension of a type that is known
pub sent-shaped : (p : Profile) (name scid tape : List ℕ) (t at : ℕ) → known t ≡ true
    → Shaped t (build_extension p name scid tape t at).bytes
unfolding
    build_extension Extensions.ext_server_name Extensions.ext_alpn Extensions.ext_u16_list Extensions.ext_supported_versions Extensions.ext_psk_ke_modes
    Extensions.ext_key_share ext_quic_tp Extensions.ext_compress_cert Extensions.ext_record_size_limit Extensions.ext_reneg_info
    Extensions.ext_status_request Extensions.ext_extended_master_secret Extensions.ext_delegated_credentials Extensions.ext_application_settings
    Extensions.ext_encrypted_client_hello Extensions.fixed_extension known member any
sent-shaped p name scid tape t at h =
    by-type t 0x0000 _ _ (λ e. shaped 0x0000 _)
    (λ e0. by-type t 0x0010 _ _ (λ e. shaped 0x0010 _)
    (λ e1. by-type t 0x000a _ _ (λ e. shaped 0x000a _)
    (λ e2. by-type t 0x000d _ _ (λ e. shaped 0x000d _)
    (λ e3. by-type t 0x002b _ _ (λ e. shaped 0x002b _)
    (λ e4. by-type t 0x0033 _ _ (λ e. shaped 0x0033 _)
    (λ e5. by-type t 0x0039 _ _ (λ e. shaped 0x0039 _)
    (λ e6. by-type t 0x001b _ _ (λ e. shaped 0x001b _)
    (λ e7. by-type t 0xfe0d _ _ (λ e. shaped 0xfe0d _)
    (λ e8. by_bytes t 0x002d _ _ (λ e. shaped 0x002d _)
    (λ e9. by_bytes t 0x001c _ _ (λ e. shaped 0x001c _)
    (λ e10. by_bytes t 0xff01 _ _ (λ e. shaped 0xff01 _)
    (λ e11. by_bytes t 0x0005 _ _ (λ e. shaped 0x0005 _)
    (λ e12. by_bytes t 0x0017 _ _ (λ e. shaped 0x0017 _)
    (λ e13. by_bytes t 0x0022 _ _ (λ e. shaped 0x0022 _)
    (λ e14. by_bytes t 0x44cd _ _ (λ e. shaped 0x44cd _)
    (λ e15. absurd (false≢true (simp (e0, e1, e2, e3, e4, e5, e6, e7, e8, e9, e10, e11, e12, e13, e14, e15) at h))))))))))))))))))

-- its type stands in front
pub sent-type : (p : Profile) (name scid tape : List ℕ) (t at : ℕ) → known t ≡ true
    → take 2 (build_extension p name scid tape t at).bytes ≡ digits 256 2 t
unfolding extension
sent-type p name scid tape t at h =
    let e = sent-shaped p name scid tape t at h in
    ap (λ (l : List ℕ). take 2 l) e.is ∙ take_at (digits 256 2 t) (vector 2 e.body) 2 (length_digits 256 2 t)

-- ---- the types of a block

-- a test that all elements pass is passed by all in any order
module _ {A : Type 0} (q : A → Bool) where
  failing : (l : List A) → all q l ≡ true → total (λ x. indicator (not (q x))) l ≡ 0
  unfolding all total
  failing [] h = refl
  failing (x ∷ l) h = rw (and_left (q x) (all q l) h) (omega (arith, failing l (and_right (q x) (all q l) h)))

  none-failing : (l : List A) → total (λ x. indicator (not (q x))) l ≡ 0 → all q l ≡ true
  unfolding all total
  none-failing [] h = refl
  none-failing (x ∷ l) h = go (λ k. none-failing l k) (q x) h
    where
      go : (total (λ x. indicator (not (q x))) l ≡ 0 → all q l ≡ true) → (b : Bool)
          → indicator (not b) + total (λ x. indicator (not (q x))) l ≡ 0
          → b && all q l ≡ true
      go ih true k = ih (omega arith)
      go ih false k = absurd (omega arith)

  pub all-permutes : (a b : List A) → Permutation a b → all q a ≡ true → all q b ≡ true
  all-permutes a b same h = none-failing b (sym (same (λ x. indicator (not (q x)))) ∙ failing a h)

-- the type that an extension's bytes begin with
abbrev pub type_of : List ℕ → ℕ
type_of e = number 256 (take 2 e)

two_bytes : (t : ℕ) → t < 65536 → number 256 (digits 256 2 t) ≡ t
unfolding above
two_bytes t h = number_digits 256 2 t (omega arith)

piece-types : (p : Profile) (name scid tape ts : List ℕ) (at : ℕ) → all known ts ≡ true → all (λ v. ltb v 65536) ts ≡ true
    → map type_of (pieces p name scid tape ts at) ≡ ts
unfolding pieces all
piece-types p name scid tape [] at h k = refl
piece-types p name scid tape (t ∷ ts) at h k =
    rw (
      sent-type p name scid tape t at (and_left (known t) (all known ts) h),
      two_bytes t (ltb-true t 65536 (and_left (ltb t 65536) (all (λ v. ltb v 65536) ts) k)),
      piece-types p name scid tape ts (build_extension p name scid tape t at).next (and_right (known t) (all known ts) h)
          (and_right (ltb t 65536) (all (λ v. ltb v 65536) ts) k),
    )

-- The first two bytes of each extension of the block are its type: so in order they are the order drawn, a permutation of the profile's
-- types (`order-permutes`).
pub block-types : (p : Profile) (name scid tape : List ℕ) → passes p ≡ true → map type_of (block_pieces p name scid tape) ≡ order p tape
unfolding passes word_list
block-types p name scid tape test =
    let types : List ℕ = p.extensions_order in
    let small : all (λ v. ltb v 65536) types ≡ true = and_right (counted 1 64 types) _ (and_left (word_list types) _ test) in
    let same = order-permutes p tape in
    piece-types p name scid tape (order p tape) (after_order p) (all-permutes known types (order p tape) same (passed p test).types-known)
    (all-permutes (λ v. ltb v 65536) types (order p tape) same small)
