-- The listing that document 01 prints whole is what the rules give: they are computed. Assumes nothing.
use mathlib.Core.Path.{◌≡◌, refl, ap, ◌∙◌}
use mathlib.Core.List.{List, [], ◌++◌, append-nil}
use Prim.Native.Nat.{ℕ}
use lib.IntN.{pos}
use Rattle.ints.specs.Whole.{sum}
use Rattle.bits.specs.Bits.{signed_in, bits16}
use Rattle.sampling.specs.Tags.{served_rate, kept_rate}
use Rattle.model.specs.Filter.{weight, offset, phase_sum, term, weighted, positive}
use Rattle.model.specs.Angle.{arctan, scaled, turned, step, steps, no_phase, phase_angle, phase_of}
use Rattle.model.specs.Report.{second_difference, differences, joined, phase_at, figures_at}
use Rattle.feed.specs.Answers.{tagged}
use Rattle.feed.specs.Places.{sample_of, place_of}
use Rattle.feed.specs.History.{opening, grown, is_due, report_at, answered, told}
use Rattle.header.specs.Header.{is_mark, version_in, soc_in, meant_rate, headed}
use Rattle.phs.specs.Listing.{answers, printed, listing}
use Rattle.phs.specs.Lines.{head_line, report_line, last_line}
use Rattle.acceptance.specs.Document.{file, ListingHolds}

-- the one report line
abbrev report : List ℕ
report = report_line 1000 1 (pos 90598592160) (pos 0) (pos 0) (pos 0) 0

computed : listing file ≡ head_line 1 60 60 ++ ((report ++ []) ++ last_line 1 31)
unfolding sum signed_in bits16 served_rate kept_rate weight offset phase_sum term weighted positive arctan scaled turned step steps no_phase phase_angle phase_of second_difference differences joined phase_at figures_at tagged sample_of place_of opening grown is_due report_at answered told is_mark version_in soc_in meant_rate headed answers printed listing
computed = refl

pub listing_holds : ListingHolds
listing_holds = computed ∙ ap (λ (l : List ℕ). head_line 1 60 60 ++ (l ++ last_line 1 31)) (append-nil report)
