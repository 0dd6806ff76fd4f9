-- What left the gateway on a channel, what came, and what is under way. Assumes nothing.
use Rattle.both_ends.specs.Connecting.{up_in}
use Rattle.std.specs.Prelude.{fold, option_to_list}
use Rattle.std.specs.List.{filter_map, list_any}
use Rattle.std.specs.Str.{bytes_eq}
use Rattle.std.proofs.Common.{◌≡◌, ◌⊎◌, inl, inr, ℕ, Bool, true, false, cond, ◌||◌, List, [], ◌∷◌, ◌++◌, Some, None, Ok, Err, Option, Result, refl, sym, ap, ◌∙◌, subst, append_assoc}
use Rattle.std.proofs.lemmas.Bool.{or_cases, or_parts, or_left, or_right, false_from_ne_true}
use Rattle.std.proofs.lemmas.List.{append-nil, append_cancel_left}
use Rattle.std.proofs.lemmas.List.Elements.{filter_map-append}
use Rattle.std.proofs.lemmas.List.Folds.{list_any-append}
use Rattle.std.proofs.lemmas.List.Sums.{fold-append}
use Rattle.std.proofs.lemmas.Slice.Eq.{bytes_eq-Decides}
use Rattle.both_ends.proofs.Follows.{next_is}
use Rattle.both_ends.specs.Allowed.{Message, Line, next_of, out_of_turn, next_live, repeated, next_report, next_other, given_recovered}
use Rattle.both_ends.specs.Connections.{IsFront, since, accepts, is_up, up_after, is_report, is_heard, shown, last_reports, once}
use Rattle.both_ends.specs.declared.allowed.Breach.{Breach}
use Rattle.both_ends.specs.declared.allowed.Breach.TheVariants.{LiveOutOfTurn, RecoveredOutOfTurn}
use Rattle.both_ends.specs.declared.call.Done.{Done}
use Rattle.follower.specs.Hearing.{heard_in}
use Rattle.follower.specs.declared.heard.Heard.{Heard}
use Rattle.follower.specs.declared.heard.Heard.TheVariants.{Report, Ack, End, Reject, Nothing}
use Rattle.layout.specs.declared.fault.Fault.{Fault}

-- ---- messages by their bytes

same_itself : (m : Message) → bytes_eq m m ≡ true
same_itself m = (bytes_eq-Decides m m).1 refl

swapped : (a b : Message) → bytes_eq a b ≡ false → bytes_eq b a ≡ false
swapped a b h = false_from_ne_true (bytes_eq b a) (λ e. absurd (other (sym (subst (λ z. bytes_eq z b ≡ true)
    ((bytes_eq-Decides b a).0 e) (same_itself b)) ∙ h)))
  where
    other : true ≡ false → ⊥
    other e = cc

-- what is next is found
pub next_found : (m : Message) (rest : List Message) → next_of m (m ∷ rest) ≡ Some rest
next_found m rest = ap (λ b. cond b (Some rest) None) (same_itself m)

-- what is nowhere is not next
next_none : (m : Message) (pre ms : List Message) → list_any (bytes_eq m) (pre ++ ms) ≡ false → next_of m ms ≡ None
next_none m pre [] h = refl
next_none m pre (y ∷ ms) h =
    ap (λ b. cond b (Some ms) None) (swapped m y (or_parts (bytes_eq m y) (list_any (bytes_eq m) ms)
    (or_parts (list_any (bytes_eq m) pre) (list_any (bytes_eq m) (y ∷ ms))
    (sym (list_any-append (bytes_eq m) pre (y ∷ ms)) ∙ h)).1).0)

-- ---- lists with one more

pub since_more : (c : ℕ) (ys : List Done) (x : Done) → accepts c x ≡ false → since c (ys ++ x ∷ []) ≡ since c ys ++ x ∷ []
since_more c ys x e =
    fold-append (λ zs x. cond (accepts c x) [] (zs ++ x ∷ [])) [] ys (x ∷ [])
    ∙ ap (λ b. cond b [] (since c ys ++ x ∷ [])) e

pub since_logon : (c : ℕ) (ys : List Done) (x : Done) → accepts c x ≡ true → since c (ys ++ x ∷ []) ≡ []
since_logon c ys x e =
    fold-append (λ zs x. cond (accepts c x) [] (zs ++ x ∷ [])) [] ys (x ∷ [])
    ∙ ap (λ b. cond b [] (since c ys ++ x ∷ [])) e

pub up_more : (ys : List Done) (x : Done) → is_up (ys ++ x ∷ []) ≡ up_after (is_up ys) x
up_more ys x = fold-append up_after false ys (x ∷ [])

pub shows_more : (f : Done → Option Message) (zs : List Done) (x : Done) → filter_map f (zs ++ x ∷ [])
    ≡ filter_map f zs ++ option_to_list (f x)
shows_more f zs x = filter_map-append f zs (x ∷ []) ∙ ap (λ l. filter_map f zs ++ l) (one (f x))
  where
    one : (o : Option Message) → filter_map (λ z. z) (o ∷ []) ≡ option_to_list o
    one None = refl
    one (Some m) = refl

pub shown_more : (shows : List Done → Done → List Message) (before zs : List Done) (x : Done)
    → shown shows before (zs ++ x ∷ []) ≡ shown shows before zs ++ shows (before ++ zs) x
shown_more shows before [] x =
    append-nil (shows before x) ∙ ap (λ b. shows b x) (sym (append-nil before))
shown_more shows before (y ∷ zs) x =
    ap (λ l. shows before y ++ l) (shown_more shows (before ++ y ∷ []) zs x)
    ∙ sym (append_assoc (shows before y) (shown shows (before ++ y ∷ []) zs) (shows ((before ++ y ∷ []) ++ zs) x))
    ∙ ap (λ b. (shows before y ++ shown shows (before ++ y ∷ []) zs) ++ shows b x) (append_assoc before (y ∷ []) zs)

once_more : (ms : List Message) (m : Message) → once (ms ++ m ∷ [])
    ≡ cond (list_any (bytes_eq m) (last_reports (once ms))) (once ms) (once ms ++ m ∷ [])
once_more ms m = fold-append (λ us m. cond (list_any (bytes_eq m) (last_reports us)) us (us ++ m ∷ [])) [] ms (m ∷ [])

reports_more : (ms : List Message) (m : Message) → last_reports (ms ++ m ∷ [])
    ≡ cond (is_report (heard_in m)) (m ∷ last_reports ms) []
reports_more ms m = fold-append (λ rs m. cond (is_report (heard_in m)) (m ∷ rs) []) [] ms (m ∷ [])

pub or-false : (b : Bool) → (b || false) ≡ b
or-false true = refl
or-false false = refl

pub longer_not_empty : (ms : List Message) (m : Message) → ms ++ m ∷ [] ≡ [] → ⊥
longer_not_empty [] m e = cc
longer_not_empty (y ∷ ms) m e = cc

-- ---- the real-time channel

-- what a list of messages has behind its front, and behind a longer front
pub behind_front : (left us live rest new : List Message) → left ≡ us ++ live → left ≡ (us ++ new) ++ rest
    → live ≡ new ++ rest
behind_front left us live rest new e g =
    append_cancel_left us live (new ++ rest) (sym e ∙ g ∙ append_assoc us new rest)

-- a message is taken off where it counts, and nothing changes where it does not
module _ (l : Line) (left us : List Message) (m : Message) (e : left ≡ us ++ l.live) where
  pub record Taken (new : List Message) (r : Result Line Breach) : Type 0 where
    pub live : List Message
    pub ok : r ≡ Ok (record l { live = live })
    pub flows : left ≡ (us ++ new) ++ live

  pub given : (own : Bool) → (up_in l.connection || list_any (bytes_eq m) left) ≡ own → IsFront (us ++ cond own (m ∷ []) []) left
      → Taken (cond own (m ∷ []) []) (next_live (next_of m l.live) l)
  given true o (rest, f) =
      let next : l.live ≡ m ∷ rest = behind_front left us l.live rest (m ∷ []) e f in record {
        live = rest;
        ok = ap (λ z. next_live z l) (ap (next_of m) next ∙ next_found m rest);
        flows = f;
      }
  given false o f =
      let (down, none) = or_parts (up_in l.connection) (list_any (bytes_eq m) left) o in record {
        live = l.live;
        ok = ap (λ z. next_live z l) (next_none m us l.live (ap (list_any (bytes_eq m)) (sym e) ∙ none))
            ∙ ap (λ b. cond b (Err LiveOutOfTurn) (Ok l)) down;
        flows = e ∙ ap (λ z. z ++ l.live) (sym (append-nil us));
      }

-- ---- the recovery channel

-- a report was handed out twice, with nothing but reports between: the second is taken for the first, come again
abbrev pub Twice : List Message → List Message → Type 0
Twice left us =
    (m : Message) × (more : List Message) × (left ≡ us ++ m ∷ more) × (list_any (bytes_eq m) (last_reports us) ≡ true)

-- what is under way is what left without what came, unless nothing that was handed out can count any more
abbrev pub InStep : List Message → List Message → List Message → Type 0
InStep left us under = (left ≡ us ++ under) ⊎ Twice left us

-- what left there, what came of it, what is under way, and which reports may come again
pub record Flowing (left us under again : List Message) : Type 0 where
  pub behind : (pre : List Message) × (left ≡ pre ++ under)
  pub repeats : (k : Message) → list_any (bytes_eq k) (last_reports us) ≡ true → list_any (bytes_eq k) again ≡ true
  pub next : InStep left us under

pub onto : (left us under new : List Message) → left ≡ us ++ under → left ++ new ≡ us ++ (under ++ new)
onto left us under new e = ap (λ z. z ++ new) e ∙ append_assoc us under new

pub grown : (left us under again new : List Message) → Flowing left us under again → Flowing (left ++ new) us (under ++ new) again
grown left us under again new h = record {
  behind = (h.behind.0, onto left h.behind.0 under new h.behind.1);
  repeats = h.repeats;
  next = by h.next;
}
  where
    by : InStep left us under → InStep (left ++ new) us (under ++ new)
    by (inl e) = inl (onto left us under new e)
    by (inr (m, more, e, i)) = inr (m, more ++ new, onto left us (m ∷ more) new e, i)

-- only reports come again
reports_only : (m : Message) (us rs : List Message)
    → (list_any (bytes_eq m) rs ≡ true → is_report (heard_in m) ≡ true)
    → list_any (bytes_eq m) (fold (λ rs m. cond (is_report (heard_in m)) (m ∷ rs) []) rs us) ≡ true
    → is_report (heard_in m) ≡ true
reports_only m [] rs h i = h i
reports_only m (y ∷ us) rs h i =
    reports_only m us (cond (is_report (heard_in y)) (y ∷ rs) []) (by (is_report (heard_in y)) refl) i
  where
    same_report : is_report (heard_in y) ≡ true → bytes_eq m y ≡ true → is_report (heard_in m) ≡ true
    same_report r e = ap (λ z. is_report (heard_in z)) ((bytes_eq-Decides m y).0 e) ∙ r

    either : is_report (heard_in y) ≡ true → (bytes_eq m y ≡ true) ⊎ (list_any (bytes_eq m) rs ≡ true)
        → is_report (heard_in m) ≡ true
    either r (inl e) = same_report r e
    either r (inr e) = h e

    by : (b : Bool) → is_report (heard_in y) ≡ b → list_any (bytes_eq m) (cond b (y ∷ rs) []) ≡ true
        → is_report (heard_in m) ≡ true
    by true r e = either r (or_cases (bytes_eq m y) (list_any (bytes_eq m) rs) e)
    by false r e = absurd (let z : false ≡ true = e in cc)

module _ (l : Line) (left ms : List Message) (m : Message) (e : Flowing left (once ms) l.recovered l.again) where
  pub record TakenBack (new : List Message) (r : Result Line Breach) : Type 0 where
    pub under : List Message
    pub again : List Message
    pub ok : r ≡ Ok (record l { recovered = under; again = again })
    pub flows : Flowing left (once (ms ++ new)) under again

  abbrev pub Given : Bool → Result Heard Fault → Type 0
  Given own h = TakenBack (cond own (m ∷ []) []) (given_recovered m h l)

  -- a message of a connection that has ended
  none_next : list_any (bytes_eq m) left ≡ false → next_of m l.recovered ≡ None
  none_next none = next_none m e.behind.0 l.recovered (ap (list_any (bytes_eq m)) (sym e.behind.1) ∙ none)

  free : up_in l.connection ≡ false → out_of_turn RecoveredOutOfTurn l ≡ Ok l
  free down = ap (λ b. cond b (Err RecoveredOutOfTurn) (Ok l)) down

  back : (b : Bool) → up_in l.connection ≡ false → repeated b l ≡ Ok l
  back true down = refl
  back false down = free down

  foreign : (h : Result Heard Fault) → up_in l.connection ≡ false → list_any (bytes_eq m) left ≡ false → Given false h
  foreign h down none = record {
    under = l.recovered;
    again = l.again;
    ok = by h;
    flows = subst (λ z. Flowing left (once z) l.recovered l.again) (sym (append-nil ms)) e;
  }
    where
      by : (h : Result Heard Fault) → given_recovered m h l ≡ Ok l
      by (Ok (Report p h)) = ap (λ z. next_report m z l) (none_next none) ∙ back (list_any (bytes_eq m) l.again) down
      by (Ok (Ack r)) = ap (λ z. next_other z l) (none_next none) ∙ free down
      by (Ok (End r)) = ap (λ z. next_other z l) (none_next none) ∙ free down
      by (Ok Reject) = ap (λ z. next_other z l) (none_next none) ∙ free down
      by (Ok Nothing) = refl
      by (Err x) = refl

  -- a report comes again
  module _ (seen : list_any (bytes_eq m) (last_reports (once ms)) ≡ true) where
    stays : once (ms ++ m ∷ []) ≡ once ms
    stays = once_more ms m ∙ ap (λ b. cond b (once ms) (once ms ++ m ∷ [])) seen

    -- it was handed out once more, and is taken off
    off : (rest : List Message) → next_of m l.recovered ≡ Some rest → Flowing left (once ms) rest (m ∷ l.again)
    off rest n = record {
      behind = (e.behind.0 ++ m ∷ [], e.behind.1 ∙ ap (λ z. e.behind.0 ++ z) is ∙ sym (append_assoc e.behind.0 (m ∷ []) rest));
      repeats = λ k i. or_right (bytes_eq k m) (list_any (bytes_eq k) l.again) (e.repeats k i);
      next = by e.next;
    }
      where
        is : l.recovered ≡ m ∷ rest
        is = next_is m l.recovered rest n

        by : InStep left (once ms) l.recovered → InStep left (once ms) rest
        by (inl g) = inr (m, rest, g ∙ ap (λ z. once ms ++ z) is, seen)
        by (inr g) = inr g

    comes : (o : Option (List Message)) → next_of m l.recovered ≡ o → TakenBack (m ∷ []) (next_report m o l)
    comes None n = record {
      under = l.recovered;
      again = l.again;
      ok = ap (λ b. repeated b l) (e.repeats m seen);
      flows = subst (λ z. Flowing left z l.recovered l.again) (sym stays) e;
    }
    comes (Some rest) n = record {
      under = rest;
      again = m ∷ l.again;
      ok = refl;
      flows = subst (λ z. Flowing left z rest (m ∷ l.again)) (sym stays) (off rest n);
    }

  -- the next one comes
  module _ (fresh : list_any (bytes_eq m) (last_reports (once ms)) ≡ false) (rest : List Message)
      (front : left ≡ once (ms ++ m ∷ []) ++ rest) where
    longer : once (ms ++ m ∷ []) ≡ once ms ++ m ∷ []
    longer = once_more ms m ∙ ap (λ b. cond b (once ms) (once ms ++ m ∷ [])) fresh

    front_is : left ≡ (once ms ++ m ∷ []) ++ rest
    front_is = front ∙ ap (λ z. z ++ rest) longer

    under_is : l.recovered ≡ m ∷ rest
    under_is = by e.next
      where
        seen : (k : Message) → k ≡ m → list_any (bytes_eq k) (last_reports (once ms)) ≡ true → true ≡ false
        seen k q i = sym (subst (λ z. list_any (bytes_eq z) (last_reports (once ms)) ≡ true) q i) ∙ fresh

        by : InStep left (once ms) l.recovered → l.recovered ≡ m ∷ rest
        by (inl g) = behind_front left (once ms) l.recovered rest (m ∷ []) g front_is
        by (inr (k, more, g, i)) =
            let w : k ∷ more ≡ m ∷ rest = behind_front left (once ms) (k ∷ more) rest (m ∷ []) g front_is in
            let q : k ≡ m = cc in
            let t : true ≡ false = seen k q i in
            cc

    found : next_of m l.recovered ≡ Some rest
    found = ap (next_of m) under_is ∙ next_found m rest

    flowing : (again : List Message) → ((k : Message) → list_any (bytes_eq k) (last_reports (once ms ++ m ∷ [])) ≡ true
        → list_any (bytes_eq k) again ≡ true) → Flowing left (once (ms ++ m ∷ [])) rest again
    flowing again h = subst (λ z. Flowing left z rest again) (sym longer) (record {
      behind = (once ms ++ m ∷ [], front_is);
      repeats = h;
      next = inl front_is;
    })

    report : is_report (heard_in m) ≡ true → TakenBack (m ∷ []) (next_report m (next_of m l.recovered) l)
    report r = record {
      under = rest;
      again = m ∷ l.again;
      ok = ap (λ z. next_report m z l) found;
      flows = flowing (m ∷ l.again) (λ k i. more k (or_cases (bytes_eq k m) (list_any (bytes_eq k) (last_reports (once ms)))
          (ap (list_any (bytes_eq k)) (sym (reports_more (once ms) m ∙ ap (λ b. cond b (m ∷ last_reports (once ms)) []) r)) ∙ i)));
    }
      where
        more : (k : Message) → (bytes_eq k m ≡ true) ⊎ (list_any (bytes_eq k) (last_reports (once ms)) ≡ true)
            → list_any (bytes_eq k) (m ∷ l.again) ≡ true
        more k (inl g) = or_left (bytes_eq k m) (list_any (bytes_eq k) l.again) g
        more k (inr g) = or_right (bytes_eq k m) (list_any (bytes_eq k) l.again) (e.repeats k g)

    other : is_report (heard_in m) ≡ false → TakenBack (m ∷ []) (next_other (next_of m l.recovered) l)
    other r = record {
      under = rest;
      again = [];
      ok = ap (λ z. next_other z l) found;
      flows = flowing [] (λ k i. absurd (none k i));
    }
      where
        none : (k : Message) → list_any (bytes_eq k) (last_reports (once ms ++ m ∷ [])) ≡ true → ⊥
        none k i =
            let z : false ≡ true = ap (list_any (bytes_eq k)) (sym (reports_more (once ms) m
            ∙ ap (λ b. cond b (m ∷ last_reports (once ms)) []) r)) ∙ i in
            cc

  -- of this connection
  module _ (h : Result Heard Fault) (heard : heard_in m ≡ h) (counts : is_heard h ≡ true)
      (front : IsFront (once (ms ++ m ∷ [])) left) where
    again_own : list_any (bytes_eq m) (last_reports (once ms)) ≡ true → Given true h
    again_own seen = by h (sym (ap is_report heard) ∙ reports_only m (once ms) [] (λ z. absurd (no z)) seen)
      where
        no : false ≡ true → ⊥
        no z = cc

        by : (h : Result Heard Fault) → is_report h ≡ true → Given true h
        by (Ok (Report p r)) i = comes seen (next_of m l.recovered) refl
        by (Ok (Ack r)) i = absurd cc
        by (Ok (End r)) i = absurd cc
        by (Ok Reject) i = absurd cc
        by (Ok Nothing) i = absurd cc
        by (Err x) i = absurd cc

    next_own : list_any (bytes_eq m) (last_reports (once ms)) ≡ false → Given true h
    next_own fresh = by h (ap is_report heard) counts
      where
        by : (h : Result Heard Fault) → is_report (heard_in m) ≡ is_report h → is_heard h ≡ true → Given true h
        by (Ok (Report p r)) i c = report fresh front.0 front.1 i
        by (Ok (Ack r)) i c = other fresh front.0 front.1 i
        by (Ok (End r)) i c = other fresh front.0 front.1 i
        by (Ok Reject) i c = other fresh front.0 front.1 i
        by (Ok Nothing) i c = absurd cc
        by (Err x) i c = absurd cc

    own : (b : Bool) → list_any (bytes_eq m) (last_reports (once ms)) ≡ b → Given true h
    own true i = again_own i
    own false i = next_own i

  pub given_back : (h : Result Heard Fault) → heard_in m ≡ h → is_heard h ≡ true → (own : Bool)
      → (up_in l.connection || list_any (bytes_eq m) left) ≡ own → IsFront (once (ms ++ cond own (m ∷ []) [])) left → Given own h
  given_back h heard counts true o f = own h heard counts f (list_any (bytes_eq m) (last_reports (once ms))) refl
  given_back h heard counts false o f =
      let (down, none) = or_parts (up_in l.connection) (list_any (bytes_eq m) left) o in foreign h down none
