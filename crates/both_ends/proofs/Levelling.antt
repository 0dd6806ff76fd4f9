-- That a partition is level behind the complete end of its download, or stays overrun. Assumes nothing.
use Rattle.std.proofs.Common.{◌≡◌, ◌⊎◌, ℕ, true, false, cond, List, [], ◌∷◌, ◌++◌, Ok, Err, Result, refl, sym, ap, ◌∙◌, subst}
use Rattle.std.proofs.lemmas.List.Sums.{fold_push}
use Rattle.codes.specs.declared.session.Partition.{Partition}
use Rattle.codes.specs.declared.session.ReportResponse.TheVariants.{Complete}
use Rattle.both_ends.proofs.Agreeing.{log_keeps, begun}
use Rattle.both_ends.proofs.Follows.{Went, given_recovered_keeps, up_of}
use Rattle.both_ends.proofs.Keeping.{Keeps}
use Rattle.both_ends.proofs.Marks.{SidedBy}
use Rattle.both_ends.specs.Agreement.{DownloadsLevel, Took, is_hers, is_unfit, place}
use Rattle.both_ends.specs.Allowed.{Line, quiet, after_call, after_log, onward}
use Rattle.both_ends.specs.Laws.{IsComplete, state_of}
use Rattle.both_ends.specs.Runs.{Desk, Does, Runs, fresh}
use Rattle.configuration.specs.declared.participant.Participant.{Participant}
use Rattle.both_ends.specs.declared.call.Done.{Done}
use Rattle.both_ends.specs.declared.call.Done.TheVariants as done
use Rattle.follower.specs.Folding.{Reached, reached, caught_up}
use Rattle.follower.specs.Following.{Following, is_up, download_of, Step, levelled, recovering, recovered_step, refused, ended}
use Rattle.follower.specs.Hearing.{heard_in}
use Rattle.follower.specs.Sides.{held_in, completed_state}
use Rattle.follower.specs.declared.answer.Recovered.{Recovered}
use Rattle.follower.specs.declared.fault.FollowerFault.TheVariants as fault
use Rattle.follower.specs.declared.heard.Heard.TheVariants.{End}
use Rattle.follower.specs.declared.side.Side.{Side}
use Rattle.follower.specs.declared.side.State.TheVariants.{Overrun}
use Rattle.follower.specs.declared.stage.Stage.TheVariants.{Running}
use Rattle.gateway.specs.State.{State, session, fresh as fresh_state}
use Rattle.venue.specs.Books.{Books}
use Rattle.partitions.proofs.Written.{at_written}
use Rattle.partitions.specs.PerPartition.{at}
use Rattle.reports.specs.declared.standings.FoldRefusal.{FoldRefusal}

-- a log that the line allows is one that it allows up to its last call
allowed_before : (c : ℕ) (xs : List Done) (x : Done) (l k : Line) → after_log c (xs ++ x ∷ []) l ≡ Ok k → (y : Line)
    × (after_log c xs l ≡ Ok y) × (z : Line) × (after_call c x y ≡ Ok z)
allowed_before c xs x l k e =
    let (y, h, g) = last_of (after_log c xs l) (sym (fold_push (onward c) (Ok l) xs x) ∙ e) in (y, h, k, g)
  where
    last_of : (r : Went) → onward c r x ≡ Ok k → (y : Line) × (r ≡ Ok y) × (after_call c x y ≡ Ok k)
    last_of (Ok y) h = (y, refl, h)
    last_of (Err b) h = absurd cc

-- the state of a partition behind a step, as a complete download leaves it
abbrev LevelledBy : Following → Partition → Following → Type 0
LevelledBy f p g = (at g.sides p).state ≡ completed_state (at f.sides p).state (at g.sides p).place

-- what was held was folded
fits_level : (f : Following) (p : Partition) (r : Result Reached FoldRefusal) → is_unfit (levelled f p r).answer
    ≡ false → LevelledBy f p (levelled f p r).after
fits_level f p (Err e) h = absurd (let z : true ≡ false = h in cc)
fits_level f p (Ok r) h =
    subst (λ (y : Side). y.state ≡ completed_state (at f.sides p).state y.place)
    (sym (at_written f.sides p (record { place = r.place; state = completed_state (at f.sides p).state r.place }))) refl

complete_level : (f : Following) (p : Partition) → is_up f ≡ true → download_of f ≡ Running p
    → is_unfit (recovered_step f (Ok (End Complete))).answer ≡ false
    → LevelledBy f p (recovered_step f (Ok (End Complete))).after
complete_level f p up run fits =
    let now : recovered_step f (Ok (End Complete)) ≡ ended f (Running p) Complete =
    ap (λ b. cond b (recovering f (End Complete)) (refused fault.NotUp f)) up ∙ ap (λ g. ended f g Complete) run in
    subst (λ (a : Step Recovered). LevelledBy f p a.after) (sym now)
    (fits_level f p (caught_up p (reached f.standings (at f.sides p).place) (held_in (at f.sides p).state))
    (subst (λ (a : Step Recovered). is_unfit a.answer ≡ false) now fits))

level_after : (c : ℕ) (s : State) (d : Desk) (y : Line) (xs : List Done) (x : Done) (w : State) (e : Desk) (z : Line)
    (p : Partition) → Keeps c s d y (λ q n. ⊥ ⊎ Took q n xs) → after_call c x y ≡ Ok z → Does s d x w e → IsComplete x
    → is_up d.follower ≡ true → download_of d.follower ≡ Running p
    → state_of e p ≡ completed_state (state_of d p) (place e p)
level_after c s d y xs (done.Recovered m r) w e z p k allowed (a, b, q) complete up run =
    let f = d.follower in
    let h : heard_in m.items ≡ Ok (End Complete) = complete in
    let goes = given_recovered_keeps c s d y (λ q n. ⊥ ⊎ Took q n xs) (k.sound up) (k.few up) k m.items
    (heard_in m.items) refl z allowed in
    let fits : is_unfit (recovered_step f (Ok (End Complete))).answer
    ≡ false = subst (λ i. is_unfit (recovered_step f i).answer ≡ false) h goes.fits in
    subst (λ (i : Desk). LevelledBy f p i.follower) (sym q)
    (subst (λ i. LevelledBy f p (recovered_step f i).after) (sym h) (complete_level f p up run fits))
level_after c s d y xs x w e z p k allowed does complete up run = absurd complete

pub downloads_level : DownloadsLevel
downloads_level c ps v xs s d x w e p runs (l, ok) does complete up run =
    let (y, h, z, allowed) = allowed_before c xs x quiet l ok in
    let (fits, k) = log_keeps c xs _ _ quiet (λ q n. ⊥) s d y (begun c ps v) runs h in
    level_after c s d y xs x w e z p k allowed does complete up run

-- ---- what passed

-- it is a report of the owner's
pub passed_hers : (c : ℕ) (ps : List Participant) (v : Books) (xs : List Done) (s : State) (d : Desk) (x : Line) (p : Partition)
    (n : ℕ) → Runs (fresh_state ps v) fresh xs s d → after_log c xs quiet ≡ Ok x → is_up d.follower ≡ true
    → state_of d p ≡ Overrun n → is_hers c s p n ≡ true
passed_hers c ps v xs s d x p n runs ok up over =
    let (fits, k) = log_keeps c xs _ _ quiet (λ q i. ⊥) s d x (begun c ps v) runs ok in
    let (r, u) = up_of c s.venue.kept (session s c) d.follower x (λ q i. ⊥ ⊎ Took q i xs) x.connection (k.up ∙ up) k.phase in
    (subst (λ z. SidedBy z c (at s.venue.kept p) (place d p) (at u.y p) (at u.b p)) over (u.parts p).sided).0
