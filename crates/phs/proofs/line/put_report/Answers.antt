-- `put_report` writes the line: the form filled is the line, the signed numbers read as they are stored. Assumes nothing.
use Rattle.std.proofs.Common.{arith, w32, w64, SFits, rules, ◌≡◌, length}
use Rattle.phs.specs.Lines.{report_line}
use Rattle.phs.proofs.Putting.{line_written, written_as, same, same_wide}
use Rattle.phs.proofs.line.put_report.Goals as goal

pub returns : goal.returns
unfolding report_line
returns c =
    let size : length c.args.line.now ≡ 256 = search rules in
    let re : SFits w64 c.args.r.re = search rules in
    let im : SFits w64 c.args.r.im = search rules in
    let d1 : SFits w32 c.args.r.d1 = search rules in
    let d2 : SFits w32 c.args.r.d2 = search rules in
    let d1_wide : SFits w64 c.from-3.result = search rules in
    let d2_wide : SFits w64 c.from-4.result = search rules in
    written_as
    (λ i. report_line (c.from.ensures i) (c.from-2.ensures i) (same re i) (same im i)
    (same_wide d1_wide d1 c.from-3.ensures i) (same_wide d2_wide d2 c.from-4.ensures i) (c.from-5.ensures i))
    (line_written c.put.ensures (omega arith) size)
