-- Where the file that the reader has left and the bytes that the writer holds are known, two listings that are written to their last line leave
-- the writer and the bank alike. Assumes nothing.
use Rattle.std.proofs.Common.{◌≡◌, refl, sym, ap, ◌∙◌, List, ℕ, ◌++◌, Option, None, Some, Ok}
use Rattle.std.specs.Io.KnownBytes.{Appends}
use Rattle.phs.specs.Cut.{Bytes}
use Rattle.lister.specs.Listing.{Tells}

holds : (text more : List ℕ) (held : Option (List ℕ)) → Appends (Some text) held more → held ≡ Some (text ++ more)
holds text more None a = absurd a
holds text more (Some l) a = ap Some a

pub list_unique : {bank file text bank' bank'' : List ℕ} {left' left'' held' held'' : Option (List ℕ)} → Bytes file
    → Tells bank (Some file) (Some text) (Ok tt) bank' left' held' → Tells bank (Some file) (Some text) (Ok tt) bank'' left'' held''
    → (held' ≡ held'') × (bank' ≡ bank'')
list_unique {file = file} {text} {held' = held'} {held''} b p q =
    let one = p.whole refl file b refl in
    let other = q.whole refl file b refl in
    (holds text _ held' one.0 ∙ sym (holds text _ held'' other.0), one.1 ∙ sym other.1)
