-- What is written is the listing of the file that the reader has left: at its end, and after a refusal, which is the last line. Assumes nothing.
use Rattle.std.proofs.Common.{◌≡◌, refl, sym, ap, ◌∙◌, subst, List, [], ◌∷◌, ℕ, ◌<◌, ◌≤◌, ◌++◌, length, take, arith, append-nil, one-add, ap₂, ◌+◌, false, le-ltb, Option, None, Some, IfSome, Result, Ok, Err, MatchResult, IfOk}
use Rattle.std.proofs.Math.Seq.{take-length}
use Rattle.std.proofs.lemmas.Bool.{false≢true}
use Rattle.std.proofs.Math.Nat.{sub-zero}
use Rattle.std.specs.Io.KnownBytes.{Consumes, Appends, IsAtEnd}
use Rattle.std.proofs.KnownBytes.{Appends-trans, Consumes-trans, Consumes-nil, Appends-nil, Consumes-whole}
use Rattle.std.specs.declared.io.Error.{Error}
use Rattle.phs.specs.declared.Stage.TheVariants.{Over}
use Rattle.phs.specs.declared.Reader.{Reader}
use Rattle.phs.specs.Lines.{line_room}
use Rattle.phs.specs.Listing.{listing}
use Rattle.phs.specs.Stream.{stream, started, after_byte, Fed, onto, fed, outcome, last, Reading, Finishing}
use Rattle.phs.specs.Cut.{Bytes, Cut, none}
use Rattle.phs.proofs.Whole.{last_text, every_cut}
use Rattle.lister.specs.declared.Unlisted.{Unlisted}
use Rattle.lister.specs.Listing.{breaks_off, told, Tells}
use Rattle.lister.specs.Inside.{Flowed, Comes, Gives, SoFar, Ends}
use Rattle.lister.proofs.Given.{nothing_yet, called, joined, bytes_after}

-- ---- from read to read

pub at_first : (bank : List ℕ) (left held : Option (List ℕ)) {q : Reader} → q ≡ started → SoFar bank left left held held q bank
at_first bank left held e = record {
  file = [];
  text = [];
  read = Consumes-nil left;
  flowed = subst (λ (q : Reader). Flowed started bank [] [] q bank) (sym e) (nothing_yet started bank);
  written = Appends-nil held;
}

-- by what a read comes to
module _ {bank : List ℕ} {left between held mid : Option (List ℕ)} {q : Reader} {bank' : List ℕ} (s : SoFar bank left between held mid q bank') (left' : Option (List ℕ)) (buffer : List ℕ) where
  -- it is the end
  pub with_end : {o : Option ℕ} → Comes between left' buffer (Ok o) → o ≡ None → SoFar bank left left' held mid q bank' × (0 < length buffer → IsAtEnd left')
  with_end c e =
      let none = subst (λ (o : Option ℕ). Comes between left' buffer (Ok o)) e c in (
        record {
          file = s.file;
          text = s.text;
          read = subst (Consumes left left') (append-nil s.file) (Consumes-trans left between left' s.file [] s.read none.0);
          flowed = s.flowed;
          written = s.written;
        },
        none.1,
      )

  -- it brings so many bytes, and their text is written
  pub with_more : {o : Option ℕ} (n : ℕ) (held' : Option (List ℕ)) (given : Result Reader Error) {p : Reader} {bank'' : List ℕ} → Comes between left' buffer (Ok o) → o ≡ Some n
      → Gives q bank' (take n buffer) mid held' given bank'' → given ≡ Ok p → SoFar bank left left' held held' p bank''
  with_more n held' given {bank'' = bank''} c e g r =
      let some = subst (λ (o : Option ℕ). Comes between left' buffer (Ok o)) e c in
      let text = subst (λ (x : Result Reader Error). Gives q bank' (take n buffer) mid held' x bank'') r g in
      record {
        file = s.file ++ take n buffer;
        text = s.text ++ text.0;
        read = Consumes-trans left between left' s.file (take n buffer) s.read some.1;
        flowed = joined s.flowed text.1;
        written = Appends-trans held mid held' s.text text.0 s.written text.2;
      }

-- ---- after a refusal the rest is passed over

module _ (held samples reports : ℕ) (kept : List ℕ) where
  abbrev over : Reader
  over = record { stage = Over; held = held; kept = kept; reports = reports; samples = samples }

  over_fed : (room : ℕ) (bank rest : List ℕ) → line_room ≤ room → fed room over bank rest ≡ record { reader = over; bank = bank; read = length rest; text = [] }
  unfolding fed after_byte
  over_fed room bank [] h = refl
  over_fed room bank (b ∷ bs) h = rw (le-ltb room line_room h, sub-zero room) (ap (onto 1 []) (over_fed room bank bs h) ∙ (λ i. record { reader = over; bank = bank; read = one-add (length bs) i; text = [] }))

  over_reads : (bank rest out : List ℕ) → line_room ≤ length out → Reading over bank rest out (record { reader = over; read = length rest; written = 0 }) bank out
  unfolding outcome
  over_reads bank rest out h = record { ends = ap (λ (f : Fed). outcome f out) (sym (over_fed (length out) bank rest h)); fits = omega arith }

-- whatever bytes follow, a reader that a refusal is said to reads them, and gives no text
passes_over : {q : Reader} → q.stage ≡ Over → (bank rest out : List ℕ) → line_room ≤ length out → Bytes rest → Flowed q bank rest [] q bank
passes_over {q} e bank rest out h b =
    let same : over q.held q.samples q.reports q.kept ≡ q = λ i. record { stage = sym e i; held = q.held; kept = q.kept; reports = q.reports; samples = q.samples } in
    let flows = called b (over_reads q.held q.samples q.reports q.kept bank rest out h) in
    subst (λ (r : Reader). Flowed r bank rest [] r bank) same
    (subst (λ (l : List ℕ). Flowed (over q.held q.samples q.reports q.kept) bank l [] (over q.held q.samples q.reports q.kept) bank) (take-length rest) flows)

-- ---- the listing

abbrev pub Told : (bank : List ℕ) (held held' : Option (List ℕ)) (bank' file : List ℕ) → Type 0
Told bank held held' bank' file = Appends held held' (told bank file) × (bank' ≡ (stream started bank file).bank) × (length bank ≡ 4096 → Appends held held' (listing file))

-- where the last line is written
pub when_ended : {bank : List ℕ} {left held left' held' : Option (List ℕ)} {bank' : List ℕ} {r : Result (Unit {0}) Unlisted} → breaks_off r ≡ false
    → (r ≡ Ok tt → (file : List ℕ) → Bytes file → left ≡ Some file → Told bank held held' bank' file) → Tells bank left held r bank' left' held'
when_ended ended t = record {
  whole = λ ok file b known. ((t ok file b known).0, (t ok file b known).1);
  listed = λ ok e file b known. (t ok file b known).2 e;
  so_far = λ b. absurd (false≢true (sym ended ∙ b));
}

module _ {bank : List ℕ} {left left' held mid held' : Option (List ℕ)} {q : Reader} {bank' out : List ℕ} {r : Result (Unit {0}) Unlisted} (s : SoFar bank left left' held mid q bank')
    (room : line_room ≤ length out) (ended : Ends q out mid held' r) (ok : r ≡ Ok tt) where
  abbrev LastLine : Result (Unit {0}) Unlisted → Type 0
  LastLine a = IfOk a (λ u. (n : ℕ) × (out' : List ℕ) × Finishing q out n out' × Appends mid held' (take n out'))

  line : LastLine (Ok tt)
  line = subst LastLine ok ended.written

  text_is : Appends held held' (s.text ++ take line.0 line.1)
  text_is = Appends-trans held mid held' s.text (take line.0 line.1) s.written line.3

  -- of all that is read, and of what follows it and gives no text
  tells : {file : List ℕ} → Flowed started bank file s.text q bank' → Told bank held held' bank' file
  tells {file} f =
      let last_is : take line.0 line.1 ≡ last (stream started bank file).reader = last_text q out line.0 line.1 room line.2 ∙ ap last (sym f.reader_is) in
      let cut : Cut started bank file s.text q =
      subst (λ (l : List ℕ). Cut started bank l s.text q) (append-nil file) (subst (λ (l : List ℕ). Cut started bank (file ++ []) l q) (append-nil s.text) (f.cut none)) in (
        subst (Appends held held') (ap₂ (λ (x y : List ℕ). x ++ y) (sym f.text_is) last_is) text_is,
        sym f.bank_is,
        λ e. subst (Appends held held') (every_cut.whatever_the_cut e cut out line.0 line.1 room line.2) text_is,
      )

  -- at the end of the input
  pub told_at_end : IsAtEnd left' → (file : List ℕ) → left ≡ Some file → Told bank held held' bank' file
  told_at_end at_end file known =
      subst (λ (o : Option (List ℕ)). IfSome o (Told bank held held' bank')) known (Consumes-whole left left' s.file (Told bank held held' bank') s.read at_end (tells s.flowed))

  -- after a refusal
  pub told_when_over : q.stage ≡ Over → (file : List ℕ) → Bytes file → left ≡ Some file → Told bank held held' bank' file
  told_when_over over_is file b known = by left' (subst (λ (o : Option (List ℕ)). Consumes o left' s.file) known s.read)
    where
      by : (o : Option (List ℕ)) → Consumes (Some file) o s.file → Told bank held held' bank' file
      by None c = absurd c
      by (Some rest) c =
          let bytes : Bytes rest = bytes_after s.file rest (sym c) b in
          let flowed : Flowed started bank (s.file ++ rest) s.text q bank' =
          subst (λ (l : List ℕ). Flowed started bank (s.file ++ rest) l q bank') (append-nil s.text) (joined s.flowed (passes_over over_is bank' rest out room bytes)) in
          tells (subst (λ (l : List ℕ). Flowed started bank l s.text q bank') (sym c) flowed)

-- ---- what a call before `?` answered

pub ok_before : {A E : Type 0} (D : Type 0) (a : Result A E) (y : A) → MatchResult a (λ x. ◌≡◌ {A = Result A D} (Ok y) (Ok x)) (λ e. ⊥) → a ≡ Ok y
ok_before D (Ok x) y p = cc
ok_before D (Err e) y p = absurd p
