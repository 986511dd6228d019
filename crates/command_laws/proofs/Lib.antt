-- OneFileLaws, ConvertLaws, CheckLaws, ListLaws, UnromfsLaws: the laws of the commands of one file.
-- FaultLines: the lines of all faults.
-- RunLaws: when a run reaches its machine.
-- RomfsLaws: the laws of `romfs`.
-- ReplayLaws: the laws of `replay`.
-- BootedRuns: what is said of a run from its opening world on, by the laws of boots, turns and runs.
-- Headers, GoOn, GoOnTexts, HitsAlike, SamePrograms, BothModes: a run that goes on, beside the same run without it.
-- FirstFault: why a run is refused. RunsGoOn, Printed: that a run goes on well, and what it prints. Headline: what a call of `run` did. BothRuns: two runs of one manifest. TraceLaws, WatchLaws: the laws of `trace` and of `--watch`.
-- KeptWorlds, KeptBoots, ItemsLaws: what a run records of one space, that it boots as without, and the items that it stores.
-- AcceptedItems, ReplayedItems: what a replay says of the items that a run keeps, and of the file that it stored.
-- DemoFaults, DemoLaws: the programs of a demo, and the laws of the command.
-- DemoSamples, RunSamples, HitSamples: the definitions on two programs of a demo, on small manifests, and on a load and a store that are watched.
-- BootedSamples, WaitingSamples: what is said of a run from its opening world on, computed on one whose program exits and on one whose program waits.
mod OneFileLaws
mod ConvertLaws
mod CheckLaws
mod FaultLines
mod ListLaws
mod UnromfsLaws
mod ReplayLaws
mod RunLaws
mod RomfsLaws
mod BootedRuns
mod Headers
mod GoOn
mod GoOnTexts
mod HitsAlike
mod SamePrograms
mod RunsGoOn
mod Printed
mod FirstFault
mod Headline
mod BothRuns
mod BothModes
mod TraceLaws
mod WatchLaws
mod KeptWorlds
mod KeptBoots
mod ItemsLaws
mod AcceptedItems
mod ReplayedItems
mod DemoFaults
mod DemoLaws
mod DemoSamples
mod RunSamples
mod HitSamples
mod BootedSamples
mod WaitingSamples
