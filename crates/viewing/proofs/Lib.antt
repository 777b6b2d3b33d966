-- What is proved of the definitions of specs/, where it rests on how a level is taken back, on a grey, or on the order of refusals.
--   Viewing      within_bound : WithinBound, sizes : Sizes
--   ShownGreys   one_grey : OneGrey; shown_greys: worked greys
--   Scan         scan_to_view : ScanToView, greys_apart_lem : GreysApart
--   CallLaws     table_first: what a table is refused for comes first; call_done, call_viewable, call_room, call_stored: when a call is done; call_pixel, call_near: what then stands in the pixels
--   Forward      forward_stored, forward_held, forward_shown: what the 9/7 call stores is never refused 12, and how far the shown pixels are
--                from the scanned ones
--   Products     seen_plane, seen_picture, seen_answer: of the table viewing takes depth, levels and the kept nodes' widths alone (job 7)
-- For the proofs of the code:
--   StoredWords  every stored coefficient is at most 2^15
--   CallStepLaws what the steps of the call leave is what the next one asks, and in the end the picture and zeros
pub mod Viewing
pub mod ShownGreys
pub mod Scan
pub mod CallLaws
pub mod Forward
pub mod Products
pub mod StoredWords
pub mod CallStepLaws
