-- `begin`, by what the header says and what its opening answers. Assumes nothing.
use Rattle.std.proofs.Common.{◌≡◌, Err, refl, sym, ap, ◌∙◌, rules}
use Rattle.phs.specs.Stream.{begun}
use Rattle.phs.proofs.Answering.{steps_as, header_unopened, header_opened}
use Rattle.phs.proofs.feeding.begin.Goals as goal

pub returns-in_err-header : goal.returns-in_err-header
unfolding begun
returns-in_err-header c =
    let is : c.from_residual.result ≡ Err c.in_err-header.field-0.0 = search rules in
    rw is (sym (ap (begun c.args.bank.now) c.in_err-header.ensures), refl)

pub returns-in_err-open_feed : goal.returns-in_err-open_feed
unfolding begun
returns-in_err-open_feed c =
    let h = c.in_ok-header.header in
    let is : c.from_residual-in_err-open_feed.result ≡ Err c.in_err-open_feed.field-0.0 = search rules in
    rw is (sym (ap (begun c.args.bank.now) c.in_ok-header.ensures) ∙ header_unopened h.version h.nominal h.rate _ c.in_err-open_feed.ensures, refl)

pub returns : goal.returns
unfolding begun
returns c =
    let h = c.in_ok-header.header in
    steps_as (ap (begun c.args.bank.now) c.in_ok-header.ensures)
    (header_opened h.version h.nominal h.rate c.in_ok-open_feed.ensures c.put_head.ensures)
