-- What is listed.
use Rattle.std.proofs.Common.{◌≡◌, ◌+◌, ◌∙◌, Bool, false, min, length, drop, refl, sym, ap, rules}
use Rattle.std.specs.Prelude.{slice_index}
use Rattle.mem_files.specs.Inodes.{entries_of}
use Rattle.machine_world.specs.Descriptors.{Listing, is_short, listing}
use Rattle.file_calls.specs.declared.outcome.Then.TheVariants.{Move}
use Rattle.file_calls.specs.Listings.{listing_value}
use Rattle.file_calls.proofs.Listed.{list_gives, from_least, size_of_folder}
use Rattle.file_calls.proofs.listing.list.Goals as goal

pub returns-clause-gives : goal.returns-clause-gives
returns-clause-gives c = λ a made same_tree v at_is.
    let entries = entries_of c.args.tree.now c.args.node in
    let room = slice_index c.args.call.now.args 2 in
    let from_is : c.min-from.result ≡ min c.args.at (length entries) = c.min-from.ensures ∙ ap (min c.args.at) (c.from.ensures ∙ c.size.ensures ∙ size_of_folder c.args.tree.now c.args.node c.requires) in
    let long : is_short room (drop c.args.at entries) ≡ false =
    sym (from_least entries c.args.at c.min-from.result Bool (λ n es. is_short room es) (λ n. refl) from_is) ∙ sym c.if-is_short.ensures in
    let is = c.in_ok-listing.ensures.listed ∙ from_least entries c.args.at c.min-from.result Listing (λ n es. listing c.args.tree.now room n es) (λ n. refl) from_is in
    list_gives a c.args.tree.now same_tree v (drop c.args.at entries) room c.args.call.now made c.args.at at_is (listing_value c.in_ok-listing.listing) long is
    (record { value = c.len.result; got = c.in_ok-got_at.field-0; then = Move (slice_index c.args.call.now.args 0) (c.args.at + c.from-2.result) })
    (search rules) c.in_ok-got_at.ensures
    (ap (λ n. Move (slice_index c.args.call.now.args 0) (c.args.at + n)) c.from-2.ensures)
