-- What a resource manager decides on messages, in its own words.
use Rattle.std.specs.Prelude.{◌≡◌, ℕ, Bool, nat_lt, if◌then◌else◌, List, [], ◌∷◌, ◌++◌, None}
use Rattle.std.specs.List.{list_all}
use Rattle.xid.specs.Transactions.{TxParts}
use Rattle.wire.specs.declared.message.Kind.{Kind}
use Rattle.protocol.specs.declared.decisions.Address.TheVariants.{Leaders}
use Rattle.protocol.specs.declared.decisions.Outgoing.{Outgoing}
use Rattle.protocol.specs.Effects.{Effect, to}
use Rattle.protocol.specs.Facts.{is_prepared_view}
use Rattle.protocol.specs.Managers.{Branch}
use Rattle.resource_manager.specs.Courses.{view_of}
use Rattle.resource_manager.specs.declared.course.Course.{Course}
use Rattle.resource_manager.specs.declared.reminding.Reminder.{Reminder}

-- whether numbers are below one
abbrev pub are_below : ℕ → List ℕ → Bool
are_below n numbers = list_all (λ rm. nat_lt rm n) numbers

-- the question for the outcome, which is asked in a course
abbrev pub asked_by : ℕ → TxParts → Course → List Outgoing
asked_by number tx course = if is_prepared_view (view_of course) then to Leaders (Kind.Ask tx number) ∷ [] else []

-- what a timeout comes to is the rule's: it stores nothing, and leaves all in memory
pub record IsReminder (reminder : Reminder) (branches : List Branch) (effect : Effect (List Branch)) : Type 0 where
  pub answer : reminder.answer ≡ effect.answer
  pub sends : reminder.vote ++ reminder.question ≡ effect.sends
  pub fact : effect.fact ≡ None
  pub memory : effect.memory ≡ branches
