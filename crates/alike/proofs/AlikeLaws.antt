-- ALIKE: it says yes exactly where both are accepted and agree; it is symmetric and transitive, and a hello is alike to itself exactly
-- where it is accepted. Assumes nothing.
use Prim.Native.Nat.{ℕ}
use mathlib.Core.Path.{◌≡◌, refl, sym, ◌∙◌}
use mathlib.Core.Logic.{◌↔◌}
use mathlib.Core.Bool.{Bool, true, false, false≢true}
use mathlib.Core.List.{List}
use lib.Dec.{eqb}
use Rattle.wire.specs.Answer.{Answer, result, refused}
use Rattle.wire.specs.Sums.{same_counts}
use Rattle.wire.proofs.AnswerLaws.{same-result}
use Rattle.wire.proofs.SumLaws.{and_left, and_right, same_counts-of, same_counts-to}
use Rattle.fingerprint.specs.ClientHello.{ClientHello}
use Rattle.fingerprint.specs.Reader.{read}
use Rattle.fingerprint.specs.Report.{report}
use Rattle.alike.specs.Alike.{Likeness, likeness, same_name, same_numbers, same_list, same_lists, agree, alike, Same, Accepted, Alike}
use Rattle.alike.proofs.SameLaws.{equal-yes, number-tests, numbers-tests, protocols-tests, name-tests}

-- ---- Two likenesses agree

module _ (a b : Likeness) where
  agree_of_lem : Same a b → agree a b ≡ true
  unfolding agree same_lists
  agree_of_lem s =
      rw (
        equal-yes number-tests a.session_id_length b.session_id_length s.session,
        equal-yes name-tests a.name b.name s.name,
        equal-yes numbers-tests a.cipher_suites b.cipher_suites s.suites,
        equal-yes numbers-tests a.supported_groups b.supported_groups s.groups,
        equal-yes numbers-tests a.key_share_groups b.key_share_groups s.shares,
        equal-yes numbers-tests a.signature_algorithms b.signature_algorithms s.algorithms,
        equal-yes numbers-tests a.supported_versions b.supported_versions s.versions,
        equal-yes protocols-tests a.alpn b.alpn s.protocols,
        same_counts-of a.extensions b.extensions s.types,
        same_counts-of a.transport_param_ids b.transport_param_ids s.ids,
      )

  agree-to : agree a b ≡ true → Same a b
  unfolding agree same_lists
  agree-to e =
      let after-session = and_right (eqb a.session_id_length b.session_id_length) _ e in
      let after-name = and_right (same_name a.name b.name) _ after-session in
      let lists = and_left (same_lists a b) _ after-name in
      let after-lists = and_right (same_lists a b) _ after-name in
      let after-suites = and_right (same_numbers a.cipher_suites b.cipher_suites) _ lists in
      let after-groups = and_right (same_numbers a.supported_groups b.supported_groups) _ after-suites in
      let after-shares = and_right (same_numbers a.key_share_groups b.key_share_groups) _ after-groups in
      let counts = and_right (same_list same_numbers a.alpn b.alpn) _ after-lists in
      record {
        session = number-tests.yes _ _ (and_left (eqb a.session_id_length b.session_id_length) _ e);
        name = name-tests.yes _ _ (and_left (same_name a.name b.name) _ after-session);
        suites = numbers-tests.yes _ _ (and_left (same_numbers a.cipher_suites b.cipher_suites) _ lists);
        groups = numbers-tests.yes _ _ (and_left (same_numbers a.supported_groups b.supported_groups) _ after-suites);
        shares = numbers-tests.yes _ _ (and_left (same_numbers a.key_share_groups b.key_share_groups) _ after-groups);
        algorithms = numbers-tests.yes _ _ (and_left (same_numbers a.signature_algorithms b.signature_algorithms) _ after-shares);
        versions = numbers-tests.yes _ _ (and_right (same_numbers a.signature_algorithms b.signature_algorithms) _ after-shares);
        protocols = protocols-tests.yes _ _ (and_left (same_list same_numbers a.alpn b.alpn) _ after-lists);
        types = same_counts-to a.extensions b.extensions (and_left (same_counts a.extensions b.extensions) _ counts);
        ids = same_counts-to a.transport_param_ids b.transport_param_ids (and_right (same_counts a.extensions b.extensions) _ counts);
      }

  pub agree-exactly : agree a b ≡ true ↔ Same a b
  agree-exactly = (agree-to, agree_of_lem)

-- ---- Sameness

pub same_self : (a : Likeness) → Same a a
same_self a =
    record {
      session = refl;
      name = refl;
      suites = refl;
      groups = refl;
      shares = refl;
      algorithms = refl;
      versions = refl;
      protocols = refl;
      types = λ x. refl;
      ids = λ x. refl;
    }

pub same_back : {a b : Likeness} → Same a b → Same b a
same_back s =
    record {
      session = sym s.session;
      name = sym s.name;
      suites = sym s.suites;
      groups = sym s.groups;
      shares = sym s.shares;
      algorithms = sym s.algorithms;
      versions = sym s.versions;
      protocols = sym s.protocols;
      types = λ x. sym (s.types x);
      ids = λ x. sym (s.ids x);
    }

pub same-on : {a b c : Likeness} → Same a b → Same b c → Same a c
same-on s t =
    record {
      session = s.session ∙ t.session;
      name = s.name ∙ t.name;
      suites = s.suites ∙ t.suites;
      groups = s.groups ∙ t.groups;
      shares = s.shares ∙ t.shares;
      algorithms = s.algorithms ∙ t.algorithms;
      versions = s.versions ∙ t.versions;
      protocols = s.protocols ∙ t.protocols;
      types = λ x. s.types x ∙ t.types x;
      ids = λ x. s.ids x ∙ t.ids x;
    }

-- ---- Two hellos

alike-to : (a b : List ℕ) (x y : Answer ClientHello) → read a ≡ x → read b ≡ y → alike x y ≡ true → Alike a b
unfolding alike
alike-to a b (result v) (result w) e f h =
    record {
      first = record { value = v; is = e };
      second = record { value = w; is = f };
      same = agree-to (likeness (report v)) (likeness (report w)) h;
    }
alike-to a b (result v) (refused n) e f h = absurd (false≢true h)
alike-to a b (refused n) y e f h = absurd (false≢true h)

alike_of : (a b : List ℕ) → Alike a b → alike (read a) (read b) ≡ true
unfolding alike
alike_of a b s =
    rw (s.first.is, s.second.is) (agree_of_lem (likeness (report s.first.value)) (likeness (report s.second.value)) s.same)

-- YES EXACTLY WHEN BOTH ARE ACCEPTED AND AGREE
pub alike-exactly : (a b : List ℕ) → alike (read a) (read b) ≡ true ↔ Alike a b
alike-exactly a b = (alike-to a b (read a) (read b) refl refl, alike_of a b)

back : {a b : List ℕ} → Alike a b → Alike b a
back s = record { first = s.second; second = s.first; same = same_back s.same }

on : {a b c : List ℕ} → Alike a b → Alike b c → Alike a c
on {a} {b} {c} s t =
    let same-value = same-result s.second.value t.first.value (sym s.second.is ∙ t.first.is) in
    record { first = s.first; second = t.second; same = same-on (rw same-value at s.same) t.same }

-- two answers of which each says yes where the other does
same_answer : (x y : Bool) → (x ≡ true → y ≡ true) → (y ≡ true → x ≡ true) → x ≡ y
same_answer true y f g = sym (f refl)
same_answer false true f g = g refl
same_answer false false f g = refl

-- SYMMETRIC
pub symmetric : (a b : List ℕ) → alike (read a) (read b) ≡ alike (read b) (read a)
symmetric a b =
    same_answer (alike (read a) (read b)) (alike (read b) (read a))
    (λ e. alike_of b a (back (alike-to a b (read a) (read b) refl refl e)))
    (λ e. alike_of a b (back (alike-to b a (read b) (read a) refl refl e)))

-- TRANSITIVE
pub transitive : (a b c : List ℕ) → alike (read a) (read b) ≡ true → alike (read b) (read c) ≡ true → alike (read a) (read c) ≡ true
transitive a b c e f =
    alike_of a c (on (alike-to a b (read a) (read b) refl refl e) (alike-to b c (read b) (read c) refl refl f))

-- REFLEXIVE EXACTLY ON ACCEPTED HELLOS
pub reflexive : (a : List ℕ) → alike (read a) (read a) ≡ true ↔ Accepted a
reflexive a = (
  λ e. (alike-to a a (read a) (read a) refl refl e).first,
  λ s. alike_of a a (record { first = s; second = s; same = same_self (likeness (report s.value)) }),
)
