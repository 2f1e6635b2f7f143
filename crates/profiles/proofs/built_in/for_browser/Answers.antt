-- What is picked from the tables is the profile that `chosen_of` speaks of. Assumes nothing.
use mathlib.Core.Path.{◌≡◌}
use mathlib.Core.List.{map}
use Rattle.std.proofs.Common.{rules}
use Rattle.profiles.specs.Code.{browser_number, parameter_of}
use Rattle.profiles.specs.Profile.{chrome_profile, firefox_profile, curl_profile, for_browser}
use Rattle.profiles.specs.Rows.{parameter_row}
use Rattle.profiles.proofs.TableLaws.{chosen_of}
use Rattle.profiles.proofs.built_in.for_browser.Goals as goal

pub returns : goal.returns
unfolding for_browser chrome_profile firefox_profile curl_profile
returns c =
    let number = c.number-at.ensures in
    let parameters : map parameter_of c.row-8.result ≡ parameter_row (browser_number c.args.browser) = search rules in
    rw (
      number.0,
      c.row.ensures,
      c.row-2.ensures,
      c.row-3.ensures,
      c.row-4.ensures,
      c.row-5.ensures,
      c.row-6.ensures,
      c.row-7.ensures,
    )
    (chosen_of _ (rw number.0 at number.1) parameters)
