-- `generate_client_hello` as a call (document 01, questions 4 to 9).
use Rattle.std.specs.Prelude.{ℕ, ◌≤◌, ◌≡◌, Bool, ◌&&◌, List, length, ltb, leb, Result, IfOk}
use Rattle.wire.specs.Answer.{Answer, result, told, ask, unless_refused}
use Rattle.wire.specs.Refusals.{answer_of, told_of}
use Rattle.wire.specs.declared.refusals.Refusal.{Refusal}
use Rattle.wire.specs.Front.{front}
use Rattle.profiles.specs.Profile.{Profile, for_browser}
use Rattle.profiles.specs.Sizes.{longest, tape_needed}
use Rattle.profiles.specs.Test.{all}
use Rattle.tls.specs.Hello.{hello}
use Rattle.tls.specs.declared.Hello.{Hello}

-- "Each byte 33 to 126"
unfoldable pub plain : List ℕ → Bool
plain name = all (λ b. leb 33 b && leb b 126) name

-- Name of 1 to 255 bytes? 5 Each byte 33 to 126? 6
unfoldable pub ask_name : {A : Type 0} → List ℕ → Answer A → Answer A
ask_name name next = ask (leb 1 (length name) && leb (length name) 255) 5 (ask (plain name) 6 next)

-- Connection id at most 20 bytes, for every profile? 7 Tape as long as the table says? 8 Output at least the hello's length with
-- P = 200? 9 The name has n bytes, the connection id s, the tape t. The table is crates/profiles/specs/Table.antt; of any profile its
-- numbers are sums (crates/profiles/specs/Sizes.antt), and for the three they are the table's (`table-length`, `table-tape`).
unfoldable pub ask_room : {A : Type 0} → Profile → ℕ → ℕ → ℕ → ℕ → Answer A → Answer A
ask_room p n s t room next = ask (leb s 20) 7 (ask (leb (tape_needed p) t) 8 (ask (leb (longest p n s) room) 9 next))

-- "The result is the length and the count drawn."
unfoldable pub make_with : Profile → List ℕ → List ℕ → List ℕ → ℕ → Answer Hello
make_with p name scid tape room =
    let made = hello p name scid tape in
    ask_name name
    (ask_room p (length name) (length scid) (length tape) room (result (record { length = length made.bytes; drawn = made.next })))

-- "The hello fills the front of the output; bytes after it stay." A refusal leaves all of it.
unfoldable pub after_make_with : Profile → List ℕ → List ℕ → List ℕ → List ℕ → List ℕ
after_make_with p name scid tape out =
    unless_refused (make_with p name scid tape (length out)) (λ h. front (hello p name scid tape).bytes out) out

-- Profile 0, 1 or 2? 4
unfoldable pub make_of : ℕ → List ℕ → List ℕ → List ℕ → ℕ → Answer Hello
make_of browser name scid tape room = ask (ltb browser 3) 4 (make_with (for_browser browser) name scid tape room)

-- the bytes of the hello
abbrev pub made_bytes : ℕ → List ℕ → List ℕ → List ℕ → List ℕ
made_bytes browser name scid tape = (hello (for_browser browser) name scid tape).bytes

unfoldable pub after_make : ℕ → List ℕ → List ℕ → List ℕ → List ℕ → List ℕ
after_make browser name scid tape out =
    unless_refused (make_of browser name scid tape (length out)) (λ h. front (made_bytes browser name scid tape) out) out

-- ---- The promise, first the meaning, as an answer and in numbers, then the bounds that a caller needs

-- a refusal has length 0 and drawn 0
abbrev pub no_hello : Hello
no_hello = record { length = 0; drawn = 0 }

abbrev pub MadeBounds : ℕ → ℕ → Result Hello Refusal → Type 0
MadeBounds room tape r = IfOk r (λ h. (h.length ≤ room) × (h.drawn ≤ tape))

pub record MakesWith (p : Profile) (name scid tape old : List ℕ) (r : Result Hello Refusal) (new : List ℕ) : Type 0 where
  pub is : answer_of r ≡ make_with p name scid tape (length old)
  pub output : new ≡ after_make_with p name scid tape old
  pub bounds : MadeBounds (length old) (length tape) r

pub record Makes (browser : ℕ) (name scid tape old : List ℕ) (r : Result Hello Refusal) (new : List ℕ) : Type 0 where
  pub is : answer_of r ≡ make_of browser name scid tape (length old)
  pub tells : told_of no_hello r ≡ told no_hello (make_of browser name scid tape (length old))
  pub output : new ≡ after_make browser name scid tape old
  pub bounds : MadeBounds (length old) (length tape) r
