-- `steps_left` is the steps: each hands on what the next asks. Assumes nothing.
use Rattle.std.proofs.Common.{◌-◌, sym, ap, to_z-of_z, w64, SFits, arith, rules}
use Rattle.model.specs.Angle.{arctan}
use Rattle.model.specs.declared.angle.Turning.{Turning}
use Rattle.model.proofs.Stepping.{within_60, within_next, steps_none, steps_more}
use Rattle.model.proofs.angle.+steps_left.Goals as goal

pub one_step-v-requires-clause-step_number : goal.one_step-v-requires-clause-step_number
unfolding arctan
one_step-v-requires-clause-step_number t c = search arith

pub one_step-v-requires-clause-sized : goal.one_step-v-requires-clause-sized
one_step-v-requires-clause-sized t c =
    rw (to_z-of_z c.ranges.re, to_z-of_z c.ranges.im) (within_60 (24 - c.args.left) (omega arith) c.requires.sized)

pub steps_left-requires : goal.steps_left-requires
steps_left-requires t c =
    let v : Turning = record { re = c.args.re; im = c.args.im; angle = c.args.angle } in
    let f : SFits w64 c.one_step-v.result.re = search rules in
    let g : SFits w64 c.one_step-v.result.im = search rules in
    let next = rw (to_z-of_z c.ranges.re, to_z-of_z c.ranges.im) at c.one_step-v.ensures in
    (omega arith, (omega arith, rw (to_z-of_z f, to_z-of_z g, next) (within_next c.args.left v (omega arith) c.requires.at_most_24 c.requires.sized)))

pub returns-then-left-eq0 : goal.returns-then-left-eq0
returns-then-left-eq0 t c =
    ap (λ (v : Turning). v.angle) (sym (steps_none c.args.left (record { re = c.args.re; im = c.args.im; angle = c.args.angle }) c.if-left-eq0.true))

pub returns : goal.returns
returns t c =
    let v : Turning = record { re = c.args.re; im = c.args.im; angle = c.args.angle } in
    let f : SFits w64 c.one_step-v.result.re = search rules in
    let g : SFits w64 c.one_step-v.result.im = search rules in
    let next = rw (to_z-of_z c.ranges.re, to_z-of_z c.ranges.im) at c.one_step-v.ensures in
    rw (c.steps_left.ensures, to_z-of_z f, to_z-of_z g, next) (ap (λ (w : Turning). w.angle) (sym (steps_more c.args.left v (omega arith))))
