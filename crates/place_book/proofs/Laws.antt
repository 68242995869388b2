-- A book's answers in the words of its clauses.
use Rattle.std.specs.Prelude.{◌≡◌, ℕ, ◌≤◌, Bool, ◌↔◌, List, length, IsTrue}
use Rattle.std.proofs.lemmas.Bool.Decides.{same_from_decides, Decides-at, Decides-like}
use Rattle.book.specs.Meaning.{Meaning, Follows, TellsFollows, TellsClash}
use Rattle.book.proofs.Peace.{follows_by_worlds}
use Rattle.place_book.specs.Places.{ParentsAreSmaller}
use Rattle.place_book.specs.Meaning.{clash, place_meaning}
use Rattle.place_book.specs.Facts.{FactFollows, FactsClash}
use Rattle.place_book.specs.FactsLemmas.{has_consequence, consequence_has, clash_tells}
use Rattle.place_book.specs.Laws.{clash_itself, clash_holds_nowhere, holds_nowhere_clash, place_book_lawful}

module _ (ps : List ℕ) (smaller : ParentsAreSmaller ps) where
  abbrev m : Meaning
  m = place_meaning ps

  -- that one fact follows from another, by the list of what follows and by the worlds
  pub follows_told : length ps ≤ 256 → (a c : ℕ) (r : Bool) → (IsTrue r ↔ FactFollows ps a c) → record { listed : IsTrue r ↔ Follows m a c; above : IsTrue r ↔ FactFollows ps a c; worlds : TellsFollows m a c r }
  follows_told small a c r above =
      let same = Decides-like r (has_consequence ps smaller a c) (consequence_has ps smaller a c) above in
      record {
        listed = same;
        above = above;
        worlds = λ ka kc. let by = follows_by_worlds m 256 (place_book_lawful ps smaller small) a c ka kc (clash_itself ps smaller a) in Decides-like r by.0 by.1 same;
      }

  -- that two facts clash, by the test and by the worlds
  pub clash_told : (a b : ℕ) (r : Bool) → (IsTrue r ↔ FactsClash ps a b) → record { tested : r ≡ clash ps a b; apart : IsTrue r ↔ FactsClash ps a b; worlds : TellsClash m a b r }
  clash_told a b r apart =
      let same = same_from_decides r (clash ps a b) apart (clash_tells ps smaller a b) in
      record { tested = same; apart = apart; worlds = λ ka kb. Decides-at r (clash ps a b) same (clash_holds_nowhere ps smaller a b, holds_nowhere_clash ps smaller a b ka kb) }
