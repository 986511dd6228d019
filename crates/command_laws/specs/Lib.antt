-- What the calls of single commands do.
--
-- OneFileLaws   what the laws of commands that load one file speak of
-- ConvertLaws, CheckLaws, ListLaws, UnromfsLaws   the commands of one file
-- ReplayLaws    the command `replay`, which loads two
-- Booted        the machine of a run before the first turn, and what is said of a run from there on
-- RunLaws       when a run reaches its machine
-- RomfsLaws     the command `romfs`, which loads as a run does
-- Beside        a run with `--go-on` beside the same run without it
-- HitsAlike     that both tell the same hits
-- FirstFault    why a run is refused
-- Headline      what each call of `run` did, by its status
-- TraceLaws     the command `trace`, beside the run of its manifest
-- WatchLaws     a run with `--watch` beside the same run without it
-- ItemsLaws     a run with `--items`: which items it stores
-- AcceptedItems what a replay says of these
-- ReplayedItems what a call of `replay` does over the file that was stored
-- DemoLaws      the command `demo`, and that its programs have no fault
pub mod OneFileLaws
pub mod ConvertLaws
pub mod CheckLaws
pub mod ListLaws
pub mod UnromfsLaws
pub mod ReplayLaws
pub mod Booted
pub mod RunLaws
pub mod RomfsLaws
pub mod Beside
pub mod HitsAlike
pub mod FirstFault
pub mod TraceLaws
pub mod WatchLaws
pub mod Headline
pub mod ItemsLaws
pub mod AcceptedItems
pub mod ReplayedItems
pub mod DemoLaws
