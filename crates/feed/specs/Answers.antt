-- Document 01, "The bank" and "The report": what is said of an answer. "Done" is what the bank's clearing, opening and closing answer.
use Rattle.std.specs.Prelude.{Result, Ok, Err, Option, Some, None, ℕ, ℤ, Float}
use Rattle.model.specs.declared.report.Figures.{Figures}
use Rattle.refusals.specs.declared.Refused.{Refused}
use Rattle.refusals.specs.Refusals.{number_of}
use Rattle.feed.specs.declared.Report.{Report}

-- the number of a refusal, "done", or "taken", with a report or without one
pub data Said : Type 0 where
  refused : (number : ℕ) → Said
  done : Said
  taken : Said
  taken_with : (soc frame : ℕ) (re im d1 d2 : ℤ) (mark : ℕ) (re_peak im_peak deviation rocof : Float) → Said

-- A report is: SOC, frame, re, im, d1, d2, mark, and four 64-bit floats
abbrev pub said_report : Report → Said
said_report r = taken_with r.soc r.frame r.re r.im r.d1 r.d2 r.mark r.re_peak r.im_peak r.deviation r.rocof

-- what a push's answer says, case by case
abbrev pub said : Result (Option Report) Refused → Said
said (Err r) = refused (number_of r)
said (Ok None) = taken
said (Ok (Some r)) = said_report r

-- the figures at a centre, with their tag: SOC and frame
unfoldable pub tagged : ℕ → ℕ → Figures → Said
tagged soc frame f = taken_with soc frame f.re f.im f.d1 f.d2 f.mark f.re_peak f.im_peak f.deviation f.rocof
