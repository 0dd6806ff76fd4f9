-- The request for a download, as it is written and read. Assumes nothing.
use Rattle.std.proofs.Common.{◌≡◌, ℕ, pos, List, [], ◌∷◌, ◌++◌, drop, None, refl, sym, ap, ◌∙◌, subst}
use Rattle.codes.specs.Session.{partition_code}
use Rattle.codes.specs.declared.session.Partition.{Partition}
use Rattle.layout.specs.Layout.Content.{figure, int8}
use Rattle.layout.specs.Writing.{header, encode}
use Rattle.session_messages.specs.declared.missed_message_request.MissedMessageRequest.{MissedMessageRequest}
use Rattle.wire.specs.declared.kinds.Channel.TheVariants.{Recovery}
use Rattle.wire.specs.declared.kinds.Kind.TheVariants.{MissedMessageRequest as Request}
use Rattle.wire.specs.declared.message.Message.{Message}
use Rattle.wire.specs.declared.message.Message.TheVariants as message
use Rattle.wire.specs.Kinds.{letter_of, total_of, table_of}
use Rattle.wire.specs.Messages.{verdict, written, Reads, GivenBack}
use Rattle.wire.specs.Plain.{plain}
use Rattle.follower.specs.Asking.{request, IsRequest, ReadBack}

module _ (p : Partition) (n : ℕ) (m : MissedMessageRequest) (a : m.partition ≡ pos (partition_code p))
    (b : m.last.value ≡ n) where
  written_as : written (message.MissedMessageRequest m) ≡ request p n
  unfolding request
  written_as =
      ap (λ z. header (letter_of Request) (total_of Request)
      ++ encode (table_of Request) (int8 z ∷ figure m.last.value ∷ [])) a
      ∙ ap (λ k. header (letter_of Request) (total_of Request)
      ++ encode (table_of Request) (int8 (pos (partition_code p)) ∷ figure k ∷ [])) b

  -- no other message is like it
  same_request : (r : Message) → plain r ≡ plain (message.MissedMessageRequest m) → IsRequest p n r
  same_request (message.MissedMessageRequest r) e =
      let same : r ≡ m = cc in (
        ap (λ (x : MissedMessageRequest). x.partition) same ∙ a,
        ap (λ (x : MissedMessageRequest). x.last.value) same ∙ b,
      )
  same_request r e = absurd cc

  pub read_back : GivenBack (message.MissedMessageRequest m) → ReadBack p n
  read_back back =
      let given = back Recovery refl in
      record {
        taken = subst (λ bs. verdict Recovery bs ≡ None) written_as given.0;
        read = λ r reads. same_request r (given.1 r (subst (λ bs. Reads Recovery bs r) (sym written_as) reads));
      }

  pub wrote : (len : ℕ) (before after : List ℕ) → len ≡ total_of Request → after
      ≡ written (message.MissedMessageRequest m) ++ drop len before → after ≡ request p n
      ++ drop (total_of Request) before
  wrote len before after l w = w ∙ ap (λ bs. bs ++ drop len before) written_as
      ∙ ap (λ k. request p n ++ drop k before) l
