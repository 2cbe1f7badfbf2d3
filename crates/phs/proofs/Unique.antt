-- The public contracts each admit one outcome: it is the outcome of one equation. Assumes nothing.
use Rattle.std.proofs.Common.{◌≡◌, ℕ, List, sym, ◌∙◌}
use Rattle.phs.specs.declared.Reader.{Reader}
use Rattle.phs.specs.declared.Moved.{Moved}
use Rattle.phs.specs.Stream.{started, Read, Reading, Finishing}

pub start_unique : (r q : Reader) → r ≡ started → q ≡ started → r ≡ q
start_unique r q e f = e ∙ sym f

-- two answers of `read_part` to the same call, with the bytes that each leaves
pub read_part_unique : (r : Reader) (bank part out : List ℕ) (m n : Moved) (bank' bank'' out' out'' : List ℕ)
    → Reading r bank part out m bank' out' → Reading r bank part out n bank'' out''
    → ◌≡◌ {A = Read} (record { moved = m; bank = bank'; out = out' }) (record { moved = n; bank = bank''; out = out'' })
read_part_unique r bank part out m n bank' bank'' out' out'' p q = p.ends ∙ sym q.ends

pub finish_unique : (r : Reader) (out : List ℕ) (n m : ℕ) (out' out'' : List ℕ) → Finishing r out n out' → Finishing r out m out''
    → ◌≡◌ {A = ℕ × List ℕ} (n, out') (m, out'')
finish_unique r out n m out' out'' p q = p.ends ∙ sym q.ends
