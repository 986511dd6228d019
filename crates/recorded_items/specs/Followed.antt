-- What some notes tell of a space.
use Rattle.std.specs.Prelude.{◌≡◌, ℕ, List, map}
use Rattle.call_log.specs.Notes.{Note}
use Rattle.flat_loader.specs.Frame.{texts}
use Rattle.items_text.specs.Values.{item_value}
use Rattle.recording_laws.specs.Homes.{calls_at}
use Rattle.recording_laws.specs.Items.{with_lists}
use Rattle.recorded_items.specs.declared.follower.Follower.{Follower}
use Rattle.recorded_items.specs.Recorded.{told_item}
use Rattle.recorded_items.specs.Left.{lists_left}
use Rattle.recorded_items.specs.Members.{AreMembers}

-- who is in it, its calls with what they brought, and what is left of all that was brought
pub record HasFollowed (space : ℕ) (all : List (List ℕ)) (f : Follower) (notes : List Note) : Type 0 where
  pub members : AreMembers space f.members notes
  pub items : map item_value f.items.items ≡ map told_item (with_lists (calls_at space notes) all)
  pub lists : texts f.lists.now ≡ lists_left (calls_at space notes) all
