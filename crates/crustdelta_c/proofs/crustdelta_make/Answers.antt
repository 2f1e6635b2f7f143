-- The length that the maker answers, as one number. Assumes nothing.
use mathlib.Core.Path.{◌≡◌}
use borrow.Author.Rules.{rules}
use Rattle.wire.specs.Answer.{result, and_then}
use Rattle.wire.specs.Refusals.{answer_of}
use Rattle.tls.specs.declared.Hello.{Hello}
use Rattle.crustdelta_c.proofs.CallLaws.{made-coded}
use Rattle.crustdelta_c.specs.Calls.{length_of}
use Rattle.crustdelta_c.proofs.crustdelta_make.Goals as goal

pub returns : goal.returns
returns c =
    let made = c.generate_client_hello-made in
    let mapped : answer_of c.map.result ≡ and_then (answer_of made.result) (λ (h : Hello). result (length_of h)) = search rules in
    rw (c.coded.ensures, mapped) (made-coded length_of made.ensures)
