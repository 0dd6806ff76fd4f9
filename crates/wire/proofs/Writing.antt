-- What is written is the message's one form, and the message can be held. Assumes nothing.
use Rattle.std.proofs.Common.{◌≡◌, ℕ, List, ◌++◌, drop, sym, subst, ◌∙◌, append_assoc}
use Rattle.layout.specs.Writing.{header, encode, Wrote}
use Rattle.wire.specs.declared.message.Message.{Message}
use Rattle.wire.specs.Kinds.{letter_of, total_of, table_of}
use Rattle.wire.specs.Messages.{kind_of, contents_of, written, Holdable}

pub one_form : (m n : Message) (b a : List ℕ) → m ≡ n
    → Wrote (letter_of (kind_of n)) (total_of (kind_of n)) (table_of (kind_of n)) (contents_of n) b a
    → a ≡ written m ++ drop (total_of (kind_of m)) b
one_form m n b a e w =
    let P : Message → Type 0 = λ x. a ≡ written x ++ drop (total_of (kind_of x)) b in
    let k = kind_of n in
    let whole = append_assoc (header (letter_of k) (total_of k)) (encode (table_of k) (contents_of n)) _ in
    subst P (sym e) (w ∙ sym whole)

pub holdable : (m n : Message) → m ≡ n → Holdable n → Holdable m
holdable m n e h = subst Holdable (sym e) h
