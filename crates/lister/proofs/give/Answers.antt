-- Calls in a row read the part byte by byte.
use Rattle.std.proofs.Common.{refl, arith, tests, [], ◌++◌, take}
use Rattle.std.proofs.KnownBytes.{Appends-nil, Appends-trans}
use Rattle.phs.proofs.Progress.{reads_some, reads_within}
use Rattle.lister.proofs.Given.{nothing_yet, called, joined, bytes_after, rest_after, less_after}
use Rattle.lister.proofs.give.Goals as goal

pub loop-rest-init : goal.loop-rest-init
loop-rest-init g c = record { same_room = refl; so_far = ([], [], refl, nothing_yet _ _, Appends-nil _) }

pub slice_bounds-rest-count : goal.slice_bounds-rest-count
slice_bounds-rest-count g c = reads_within _ _ _ _ _ _ _ c.read_part-m.ensures

pub slice_bounds-rest-start : goal.slice_bounds-rest-start
slice_bounds-rest-start g c = slice_bounds-rest-count g c

pub loop-rest-smaller : goal.loop-rest-smaller
loop-rest-smaller g c =
    less_after c.loop-rest.rest.now c.read_part-m.result.read (reads_some _ _ _ _ _ _ _ c.read_part-m.ensures (omega arith) (grind (arith, tests)))
    (reads_within _ _ _ _ _ _ _ c.read_part-m.ensures)

pub loop-rest-preserved : goal.loop-rest-preserved
loop-rest-preserved g c =
    let (done, text, part_is, flowed, written) = c.loop-rest.invariant.so_far in
    let m = c.read_part-m.result in
    let rest = c.loop-rest.rest.now in
    record {
      same_room = omega arith;
      so_far = (
        done ++ take m.read rest,
        text ++ take m.written c.read_part-m.new.out,
        rest_after done rest m.read part_is,
        joined flowed (called (bytes_after done rest part_is (λ i. (c.type_inv.part i).fits)) c.read_part-m.ensures),
        Appends-trans _ _ _ _ _ written c.in_ok-write_all.ensures.bytes,
      );
    }
