-- The figures of a window depend on its first index mod 15, and the samplings are multiples of 15: so the newest sample's index, thirty after
-- the first, serves for the first one's number. Assumes nothing.
use mathlib.Core.Path.{◌≡◌}
use mathlib.Core.List.{List}
use Prim.Native.Nat.{◌+◌, ◌-◌, ◌%◌, ◌≤◌}
use native.Mathlib.Omega.{arith}
use Rattle.model.specs.declared.filter.Sample.{Sample}
use Rattle.sampling.specs.declared.Nominal.{Nominal}
use Rattle.model.specs.declared.report.Phases.{Phases}
use Rattle.model.specs.Filter.{windowed}
use Rattle.model.specs.Report.{figures_with, three_phase}
use Rattle.model.proofs.Windows.{figures_placed}
use Rattle.feed.specs.declared.Head.{Head}
use Rattle.feed.specs.Ring.{next_number_of}
use Rattle.feed.specs.Inside.{centre_number}
use Rattle.feed.proofs.Sound.{Sound}
use Rattle.feed.proofs.Standing.{started}

pub by_newest : (nominal : Nominal) (window : List Sample) (kept : Phases) (h : Head) → Sound h → 30 ≤ h.held
    → figures_with three_phase nominal (windowed window h.index) (h.index + 15) kept
    ≡ figures_with three_phase nominal (windowed window (next_number_of h - 30)) (centre_number h) kept
by_newest nominal window kept h s full =
    let l = started h s in
    let e : h.index % 15 ≡ (next_number_of h - 30) % 15 = omega arith in
    figures_placed window h.index (next_number_of h - 30) (centre_number h) e (omega arith) three_phase nominal kept
