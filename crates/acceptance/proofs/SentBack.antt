-- The bytes of an accepted frame are those of a frame that a device sends: field by field, and the checksum. Assumes nothing.
use mathlib.Core.Path.{◌≡◌, sym, ap, ◌∙◌}
use mathlib.Core.List.{List, [], ◌∷◌, ◌++◌}
use Prim.Native.Nat.{ℕ, ◌+◌, ◌*◌, ◌^◌, ◌<◌}
use native.Mathlib.Nat.{mod-lt}
use native.Mathlib.Omega.{arith}
use lib.ListN.{length, get_or, take, drop, take-append-drop, length-drop}
use lib.Pow.{pow_pos, split}
use lib.Seq.{take_all}
use mir.Syntax.{w16}
use mir.Val.{SFits}
use Rattle.bits.specs.Bits.{bytes16, bytes32, bits16}
use Rattle.bits.proofs.Bytes.{word_lt, long_lt, highest, bytes_of_word, bytes_of_long, bits_back, signed_in_lem}
use Rattle.bank.proofs.RoundTrip.{spelt}
use Rattle.frames.specs.Checksum.{checksum}
use Rattle.frames.specs.Fields.{word_at, long_at, sync_in, size_in, id_in, soc_in, quality_in, fracsec_in, stat_in, figure_at, sent_checksum, before_checksum}
use Rattle.phs.specs.Cut.{Bytes}
use Rattle.acceptance.specs.Runs.{I16}
use Rattle.acceptance.specs.ConditionD.{Sent, bytes_before, frame_of}

module _ (frame : List ℕ) (bytes : Bytes frame) where
  pub figure_in : (k : ℕ) → SFits w16 (figure_at frame k)
  unfolding figure_at
  figure_in k = signed_in_lem (word_at frame k) (word_lt _ _ (bytes k) (bytes (k + 1)))

  abbrev pub figure : ℕ → I16
  figure k = record { number = figure_at frame k; range = figure_in k }

  word_parted : (k : ℕ) → bytes16 (word_at frame k) ≡ get_or frame k 0 ∷ get_or frame (k + 1) 0 ∷ []
  word_parted k = bytes_of_word _ _ (bytes k) (bytes (k + 1))

  figure_parted : (k : ℕ) → bytes16 (bits16 (figure_at frame k)) ≡ get_or frame k 0 ∷ get_or frame (k + 1) 0 ∷ []
  unfolding figure_at
  figure_parted k = ap bytes16 (bits_back (word_at frame k) (word_lt _ _ (bytes k) (bytes (k + 1)))) ∙ word_parted k

  long_parted : (k : ℕ) → bytes32 (long_at frame k) ≡ get_or frame k 0 ∷ get_or frame (k + 1) 0 ∷ get_or frame (k + 2) 0 ∷ get_or frame (k + 3) 0 ∷ []
  long_parted k = bytes_of_long _ _ (bytes k) (bytes (k + 1)) _ _ (bytes (k + 2)) (bytes (k + 3))

  -- what its bytes say
  abbrev pub sent_in : stat_in frame < 2 ^ 14 → Sent
  sent_in h =
      record {
        id = id_in frame;
        soc = soc_in frame;
        quality = quality_in frame;
        fracsec = fracsec_in frame;
        stat = stat_in frame;
        re = figure 16;
        im = figure 18;
        freq = figure 20;
        dfreq = figure 22;
        id_range = word_lt _ _ (bytes 4) (bytes 5);
        soc_range = long_lt _ _ (bytes 6) (bytes 7) _ _ (bytes 8) (bytes 9);
        quality_range = bytes 10;
        fracsec_range = mod-lt (long_at frame 10) (pow_pos 24);
        stat_range = h;
      }

  module _ (whole : length frame ≡ 26) (sync : sync_in frame ≡ 43521) (size : size_in frame ≡ 26) (stat : stat_in frame < 2 ^ 14)
      (checked : sent_checksum frame ≡ checksum (before_checksum frame)) where
    before_sent : bytes_before (sent_in stat) ≡ before_checksum frame
    before_sent =
        let b0 : 170 ≡ get_or frame 0 0 = omega (arith, sync, bytes 0, bytes 1) in
        let b1 : 1 ≡ get_or frame 1 0 = omega (arith, sync, bytes 0, bytes 1) in
        let b2 : 0 ≡ get_or frame 2 0 = omega (arith, size, bytes 2, bytes 3) in
        let b3 : 26 ≡ get_or frame 3 0 = omega (arith, size, bytes 2, bytes 3) in
        let quality = highest _ _ (bytes 10) (bytes 11) _ _ (bytes 12) (bytes 13) in
        let fraction = ap (λ (q : ℕ). bytes32 (q * 2 ^ 24 + fracsec_in frame)) (sym quality) ∙ ap bytes32 (split (long_at frame 10) 24) ∙ long_parted 10 in
        (λ i. b0 i ∷ b1 i ∷ b2 i ∷ b3 i ∷ (word_parted 4 i ++ (long_parted 6 i ++ (fraction i ++ (word_parted 14 i
        ++ (figure_parted 16 i ++ (figure_parted 18 i ++ (figure_parted 20 i ++ figure_parted 22 i))))))))
        ∙ sym (spelt 24 0 frame (omega (arith, whole)))

    rest : drop 24 frame ≡ get_or frame 24 0 ∷ get_or frame 25 0 ∷ []
    rest =
        let two : length (drop 24 frame) ≡ 2 = length-drop 24 frame ∙ omega (arith, whole) in
        sym (take_all 2 (drop 24 frame) (omega (arith, two))) ∙ spelt 2 24 frame (omega (arith, whole))

    pub is_sent : frame ≡ frame_of (sent_in stat)
    is_sent =
        let sealed : bytes16 (checksum (before_checksum frame)) ≡ drop 24 frame = ap bytes16 (sym checked) ∙ word_parted 24 ∙ sym rest in
        sym (ap (λ (l : List ℕ). l ++ bytes16 (checksum l)) before_sent ∙ ap (λ (l : List ℕ). take 24 frame ++ l) sealed ∙ take-append-drop 24 frame)
