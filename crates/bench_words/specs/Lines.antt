-- The words of a line of a script, by its bytes. Assumes nothing.
use Rattle.std.specs.Prelude.{◌≡◌, ℕ, Bool, true, false, ◌==◌, List, [], ◌∷◌, Some, None, Option, ⊤, Vec}
use Rattle.std.specs.Borrow.{Bor}
use Rattle.std.specs.Str.{IsUtf8}
use Rattle.std.specs.declared.alloc.Global.{Global}
use Rattle.std.specs.Iterator.{DrainsIf}
use Rattle.std.specs.Str.Iter.{split_whitespace_rest, split_whitespace_steps}
use Rattle.std.specs.declared.str.SplitWhitespace.{SplitWhitespace}

-- the words of a line, each lent
abbrev pub Words : Type 0
Words = List (Bor (List ℕ))

-- the words of a text, as std parts them at white space
abbrev pub IsWordsOf : List ℕ → Words → Type 0
IsWordsOf text words =
    (it : SplitWhitespace) × (split_whitespace_rest it ≡ text) × DrainsIf split_whitespace_steps ⊤ it words

-- a line has its words where it is text, and else none
abbrev pub Parted : List ℕ → Option (Vec (Bor (List ℕ)) Global) → Type 0
Parted bytes None = IsUtf8 bytes → ⊥
Parted bytes (Some words) = IsUtf8 bytes × IsWordsOf bytes words.items

-- the byte of `#`
abbrev pub hash : ℕ
hash = 35

abbrev pub is_comment : List ℕ → Bool
is_comment [] = false
is_comment (b ∷ bs) = b == hash

-- a line with no word is skipped, and one whose first word begins with a hash
abbrev pub skips : Words → Bool
skips [] = true
skips (w ∷ ws) = is_comment w.now
