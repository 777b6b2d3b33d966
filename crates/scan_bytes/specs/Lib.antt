-- A rolling scan as bytes of the caller (document 02, job 5; include/suzdrepa.h).
--   ScanBytes   the bytes of a scan, and the scan that bytes hold
--   ByteLaws    a scan that was written is read back as itself; for the code
pub mod ScanBytes
pub mod ByteLaws
