use Rattle.std.proofs.Common.{◌≡◌, refl, map}
use Rattle.layout.specs.Published.{published_of}
use Rattle.wire.specs.declared.kinds.Channel.{Channel}
use Rattle.wire.specs.declared.kinds.Channel.TheVariants as channel
use Rattle.wire.specs.declared.kinds.Kind.{Kind}
use Rattle.wire.specs.declared.kinds.Kind.TheVariants as kind
use Rattle.wire.specs.Kinds.{kinds_of, layout_of, letter_of}
use Rattle.wire.specs.Published.{letters_of, published}
use Rattle.examples.proofs.numbers_hold.Goals as goal

-- each kind is tried, and each reader
layouts : (k : Kind) → published_of (layout_of k) ≡ published k
layouts kind.Logon = refl
layouts _ = refl

readers : (ch : Channel) → map letter_of (kinds_of ch) ≡ letters_of ch
readers channel.RealTime = refl
readers _ = refl

pub returns : goal.returns
returns c =
    record {
      orders = refl;
      trades = refl;
      reports = refl;
      shares = refl;
      comp_ids = refl;
      instruments = refl;
      partitions = refl;
      requests = refl;
      downloaded = refl;
      held = refl;
      lit_book = λ os. refl;
      dark_book = λ os. refl;
      tape = λ os. refl;
      start = refl;
      sequence_limit = refl;
      message_bytes = refl;
      buffer = refl;
      wire = record { layouts = layouts; readers = readers };
    }
