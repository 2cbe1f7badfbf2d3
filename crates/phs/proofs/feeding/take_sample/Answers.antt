-- `take_sample`, by what the push answers. Assumes nothing.
use Rattle.std.proofs.Common.{◌≡◌, ◌^◌, ◌<◌, Err, refl, rules}
use Rattle.phs.proofs.Answering.{sample_refused, sample_taken, sample_reported}
use Rattle.phs.proofs.feeding.take_sample.Goals as goal

pub returns-in_err-due : goal.returns-in_err-due
returns-in_err-due c =
    let reports_fit : c.args.c.reports < 2 ^ 64 = search rules in
    let samples_fit : c.args.c.samples < 2 ^ 64 = search rules in
    let is : c.from_residual.result ≡ Err c.in_err-due.field-0.0 = search rules in
    rw is (sample_refused c.args.c _ reports_fit samples_fit c.in_err-due.ensures, refl)

pub returns-in-None : goal.returns-in-None
returns-in-None c =
    let reports_fit : c.args.c.reports < 2 ^ 64 = search rules in
    sample_taken c.args.c reports_fit (rw c.in-None.is at c.in_ok-due.ensures)

pub returns-in-Some : goal.returns-in-Some
returns-in-Some c = sample_reported c.args.c (rw c.in-Some.is at c.in_ok-due.ensures) c.put_report.ensures
