-- The clients of labels, and what becomes of them.
use Rattle.std.specs.Prelude.{◌≡◌, ℕ, List, find, Bool, Option, Some, None, if◌then◌else◌}
use Rattle.std.specs.Option.{option_map}
use Rattle.mgs_model.specs.Names.{same_name}
use Rattle.mgs_term.specs.Screen.{Screen}
use Rattle.mgs_term.specs.Terminal.{Terminal, resting}
use Rattle.mgs_term.specs.Drawing.{Draws, Anything}
use Rattle.mgs_replay.specs.declared.client.Labelled.{Labelled}
use Rattle.mgs_replay.specs.declared.client.Client.{Client}
use Rattle.mgs_replay.specs.declared.client.Client.TheVariants.{Never, Open, Ended}
use Rattle.mgs_replay.specs.declared.client.Cause.{Cause}
use Rattle.mgs_replay.specs.Prints.{screen_text, ended_text}

abbrev pub is_labelled : List ℕ → Labelled → Bool
is_labelled label x = same_name label x.label

-- the client of a label, if it was used
abbrev pub client_of : List ℕ → List Labelled → Option Client
client_of label xs = option_map (λ (x : Labelled). x.client) (find (is_labelled label) xs)

-- a label's session has ended
abbrev pub ended_by : List ℕ → Cause → Labelled → Labelled
ended_by label cause x = if is_labelled label x then record { label = x.label; client = Ended cause } else x

-- what a `show` line prints; none where it is refused
abbrev pub shown_text : List ℕ → Option Client → Option (List ℕ)
shown_text label None = None
shown_text label (Some Never) = None
shown_text label (Some (Open id term)) = Some (screen_text label term.screen)
shown_text label (Some (Ended cause)) = Some (ended_text label cause)

-- what bytes make of a terminal: where they draw, it shows the screen to which they lead
abbrev pub TermFed : List ℕ → Terminal → Terminal → Type 0
TermFed bytes old new = (s t : Screen) → old ≡ resting s → Draws Anything bytes s t → new ≡ resting t
