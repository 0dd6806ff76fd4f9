-- Reading undoes writing, and no two messages are written alike. Assumes nothing.
use Rattle.std.proofs.Common.{◌≡◌, ℕ, List, map, Some, None, Ok, Result, sym, refl, ap, ◌∙◌, subst}
use Rattle.std.specs.Option.{option_map}
use Rattle.layout.specs.declared.fault.Fault.{Fault}
use Rattle.layout.specs.declared.fault.Fault.TheVariants as fault
use Rattle.layout.specs.Layout.{Says, got}
use Rattle.layout.specs.Writing.{header, encode}
use Rattle.wire.specs.declared.kinds.Channel.{Channel}
use Rattle.wire.specs.declared.kinds.Kind.{Kind}
use Rattle.wire.specs.declared.message.Message.{Message}
use Rattle.wire.specs.Kinds.{letter_of, total_of, table_of, takes}
use Rattle.wire.specs.Messages.{kind_of, contents_of, opening, after_opening, verdict, written, Holdable, GivenBack, Apart}
use Rattle.wire.proofs.Opening.{opened}
use Rattle.wire.proofs.Same.{same}
use Rattle.wire.proofs.Sound.{sound, reader_of, kinds_same}
use Rattle.wire.proofs.Trips.{trip}

-- the bytes of a message are read again as it was
read_again : (ch : Channel) (m : Message) → Holdable m → takes ch (letter_of (kind_of m)) ≡ Some (kind_of m)
    → (opening ch (written m) ≡ Ok (kind_of m)) × (verdict ch (written m) ≡ None)
    × Says (contents_of m) (table_of (kind_of m)) (written m)
read_again ch m h d =
    let k = kind_of m in
    let q = header (letter_of k) (total_of k) in
    let t = trip (table_of k) (contents_of m) q (total_of k) refl (sound k).tiles (sound k).looks h in
    let o = opened ch k (encode (table_of k) (contents_of m)) t.2 d in
    (o, ap (after_opening (written m)) o ∙ ap (λ x. option_map (λ at. fault.Field at) x) t.0, t.1)

ok_same : (r : Result Kind Fault) (j k : Kind) → r ≡ Ok j → r ≡ Ok k → j ≡ k
ok_same r j k p q = cc

says_alike : (m n : Message) (bs : List ℕ) → kind_of n ≡ kind_of m → Says (contents_of n) (table_of (kind_of n)) bs
    → Says (contents_of m) (table_of (kind_of m)) bs → contents_of n ≡ contents_of m
unfolding Says
says_alike m n bs k a b = a ∙ ap (λ j. map (got bs) (table_of j)) k ∙ sym b

pub given_back : (m : Message) → Holdable m → GivenBack m
given_back m h ch d =
    let a = read_again ch m h d in (
      a.1,
      λ b r.
          let k = ok_same (opening ch (written m)) (kind_of b) (kind_of m) r.opens a.0 in
          same b m k (says_alike m b (written m) k r.says a.2),
    )

pub apart : (m : Message) → Holdable m → Apart m
apart m h n g e =
    let k = kinds_same (kind_of n) (kind_of m) (cc) in
    let s = sound (kind_of m) in
    let D : Kind → Type 0 = λ j. takes (reader_of (kind_of m)) (letter_of j) ≡ Some j in
    let a = read_again (reader_of (kind_of m)) m h s.taken in
    let b = read_again (reader_of (kind_of m)) n g (subst D (sym k) s.taken) in
    let Q : List ℕ → Type 0 = λ x. Says (contents_of n) (table_of (kind_of n)) x in
    same n m k (says_alike m n (written m) k (subst Q e b.2) a.2)
