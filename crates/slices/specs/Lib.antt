-- Slices as functions of the place, and a plane that lies in one: laws that know no wavelet.
--
-- Definitions (cited by promises and contracts above), with their laws:
--   Patch       a slice as a function of the place (`at`), and such a function with a run of its places replaced (`patch`)
--   Runs        a function at each place of a run, with the places beside it (`ran`)
--   PatchLines  the same of lines (`patch_lines`)
--   Parts       rows and columns of a part of a plane
--   Fronts      a slice whose front is written over (`zeroed`)
--   Pixels      pixels, each less the middle of its range (`pixel_line`, `loaded`)
--   Biased      values of 32 bits as unsigned numbers (`biased`)
-- Laws:
--   Filling     a loop that fills a run, or lines, turn by turn
--   SignedRuns  such a loop on signed numbers
--   PartLaws    a plane worked row by row, or strip by strip
--   FrontLaws   what is written over the front, element by element
pub mod Patch
pub mod Runs
pub mod PatchLines
pub mod Parts
pub mod Fronts
pub mod Pixels
pub mod Biased
pub mod Filling
pub mod SignedRuns
pub mod PartLaws
pub mod FrontLaws
