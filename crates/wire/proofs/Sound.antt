-- What holds of each kind: its table, and that its type byte names it. Assumes nothing.
use Rattle.std.proofs.Common.{is_some, ◌≡◌, ◌++◌, ℕ, true, cond, eqb, leb, ltb, Some, Option, sym, refl, ap, ◌∙◌}
use Rattle.std.specs.List.{find}
use Rattle.layout.specs.Layout.{within}
use Rattle.layout.specs.Writing.{tiled}
use Rattle.wire.specs.declared.kinds.Channel.{Channel}
use Rattle.wire.specs.declared.kinds.Channel.TheVariants.{RealTime, Recovery, Follower}
use Rattle.wire.specs.declared.kinds.Kind.{Kind}
use Rattle.wire.specs.declared.kinds.Kind.TheVariants as kind
use Rattle.wire.specs.Kinds.{kinds_of, letter_of, total_of, table_of, takes}
use Rattle.wire.proofs.Trips.{looked}

-- the first kind that a type byte names, of all
abbrev named : ℕ → Option Kind
named t = find (λ k. eqb (letter_of k) t) (kinds_of RealTime ++ (kinds_of Recovery ++ kinds_of Follower))

-- some reader that takes the kind
abbrev pub reader_of : Kind → Channel
reader_of k =
    cond (is_some (takes RealTime (letter_of k))) RealTime
    (cond (is_some (takes Recovery (letter_of k))) Recovery Follower)

pub record IsSound (k : Kind) : Type 0 where
  pub tiles : tiled 4 (total_of k) (table_of k) ≡ true
  pub spans : within (total_of k) (table_of k) ≡ true
  pub looks : looked (table_of k) (table_of k) ≡ true
  pub short : leb 4 (total_of k) ≡ true
  pub long : ltb (total_of k) 65539 ≡ true
  pub found : named (letter_of k) ≡ Some k
  pub taken : takes (reader_of k) (letter_of k) ≡ Some k

-- each kind is tried
pub sound : (k : Kind) → IsSound k
sound kind.Logon =
    record { tiles = refl; spans = refl; looks = refl; short = refl; long = refl; found = refl; taken = refl }
sound _ = record { tiles = refl; spans = refl; looks = refl; short = refl; long = refl; found = refl; taken = refl }

pub kinds_same : (j k : Kind) → letter_of j ≡ letter_of k → j ≡ k
kinds_same j k e =
    let f : Some j ≡ Some k = sym (sound j).found ∙ ap named e ∙ (sound k).found in
    cc
