-- `one_step` is the step: where im is 0 nothing changes; elsewhere both parts are within 2^60, so no sum overflows, and the sign of im chooses each
-- part as it chooses the step. Assumes nothing.
use Rattle.std.proofs.Common.{◌^◌, cond, pos, ap, ◌∙◌, w64, SFits, of_z, to_z-of_z, arith, rules}
use lib.Signed.{lt_z}
use Rattle.ints.proofs.Floor.{shift_is_floor}
use Rattle.ints.proofs.Size.{floor_smaller}
use Rattle.ints.proofs.Signed.{Exp, whole, shift, ◌⊕◌, ◌⊖◌, at}
use Rattle.model.specs.Angle.{gains, loses}
use Rattle.model.specs.Bounds.{Sized}
use Rattle.model.specs.declared.angle.Turning.{Turning}
use Rattle.model.proofs.Signed.{signed}
use Rattle.model.proofs.Stepping.{step_chosen}
use Rattle.model.proofs.angle.Turning.one_step.Goals as goal

-- both parts, as the machine holds them
module _ (v : Turning) (s : Sized (2 ^ 60) v.re v.im) where
  abbrev re : Exp w64
  re = whole v.re (2 ^ 60) s.re_size

  abbrev im : Exp w64
  im = whole v.im (2 ^ 60) s.im_size

pub overflow_add-self-2 : goal.overflow_add-self-2
overflow_add-self-2 c = grind (arith, signed, shift_is_floor, floor_smaller)

pub returns : goal.returns
returns c =
    let v = c.args.self in
    let i = c.args.i in
    let a-is = c.requires.step_number.1 in
    let x = re v c.requires.sized in
    let y = im v c.requires.sized in
    let re-fits : SFits w64 c.either.result = search rules in
    let im-fits : SFits w64 c.either-2.result = search rules in
    let re-is = to_z-of_z re-fits ∙ c.either.ensures ∙ λ j. cond (lt_z (at y tt j) (pos 0)) (at (x ⊖ shift y i) tt j) (at (x ⊕ shift y i) tt j) in
    let im-is = to_z-of_z im-fits ∙ c.either-2.ensures ∙ λ j. cond (lt_z (at y tt j) (pos 0)) (at (y ⊕ shift x i) tt j) (at (y ⊖ shift x i) tt j) in
    let more-is = c.more.ensures ∙ ap (gains v.angle) a-is in
    let fewer-is = c.fewer.ensures ∙ ap (loses v.angle) a-is in
    let angle-is = c.either-3.ensures ∙ λ j. cond (lt_z (at y tt j) (pos 0)) (fewer-is j) (more-is j) in
    (λ j. record { re = re-is j; im = im-is j; angle = angle-is j }) ∙ step_chosen i v (λ e. c.if-self-eq0.false (ap (of_z w64) e))
