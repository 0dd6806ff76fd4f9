-- What a line of a script says, by its bytes. Assumes nothing.
use Rattle.std.specs.Prelude.{◌≡◌, ℕ, ◌⊎◌, true, false, List, Ok, Err}
use Rattle.std.specs.Str.{IsUtf8}
use Rattle.bench_words.specs.Lines.{Words, IsWordsOf, skips}
use Rattle.auction_script.specs.declared.command.Misread.TheVariants.{Text}
use Rattle.auction_script.specs.declared.line.Line.{Line as Says}
use Rattle.auction_script.specs.declared.line.Line.TheVariants.{Skipped, Call, Misread as Unread}
use Rattle.auction_script.specs.Commands.{WordsRead}

-- what the words say: nothing where they are skipped, and else what the call says
abbrev pub Said : Words → Says → Type 0
Said ws Skipped = skips ws ≡ true
Said ws (Call c) = (skips ws ≡ false) × WordsRead ws (Ok c)
Said ws (Unread e) = (skips ws ≡ false) × WordsRead ws (Err e)

-- a line that is no text is misread as such, and any other says what its words say
abbrev pub LineRead : List ℕ → Says → Type 0
LineRead bytes l =
    ((IsUtf8 bytes → ⊥) × (l ≡ Unread Text)) ⊎ (IsUtf8 bytes × ((ws : Words) × (IsWordsOf bytes ws × Said ws l)))
